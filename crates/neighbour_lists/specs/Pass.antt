-- The pass between two rows: what is known once the slots before slot j have been taken.
use Rattle.std.specs.Prelude.{◌≡◌, Bool, cond, List, ℕ, ◌+◌, ◌-◌, ◌*◌, ◌/◌, ◌<◌, ◌≤◌, ltb, length, get_or, set}
use Rattle.bitmaps.specs.Rows.{Screen, Spread, total}
use Rattle.neighbour_lists.specs.Lists.{precedes_slot, rank_at, occupied_at, last_preceding}
use Rattle.neighbour_lists.specs.Row.{first_seen, Marks}

-- ranks for each block with slot j's, where it is lower
unfoldable pub lowered : List ℕ → ℕ → ℕ → List ℕ
lowered low j rank = cond (ltb rank (get_or low (j / 64) 0)) (set low (j / 64) rank) low

-- both numbers of the slots before slot j, by those slots alone; the marks and the maps of those slots
pub record Taken (w : ℕ) (u : Bool) (t places near full free low maps : List ℕ) (j : ℕ) : Type 0 where
  pub nexts : (i : ℕ) → i < j → get_or near (2 * i) 0 ≡ first_seen (precedes_slot w u t i) (i + 1) (j - (i + 1))
  pub befores : (i : ℕ) → i < j → get_or near (2 * i + 1) 0 ≡ last_preceding w u t i
  pub marks : Marks (rank_at w t) (occupied_at w t) near full free low j
  pub screen : Screen w t places maps j

-- working arrays long enough for n slots and a number of places; the places within a value of w words, and spread
pub record Room (w n : ℕ) (near full free low maps places : List ℕ) (count : ℕ) (chosen starts others own : List ℕ) : Type 0 where
  pub numbers : 2 * n ≤ length near
  pub blocks : 16 ≤ length full
  pub blocks_free : 16 ≤ length free
  pub blocks_low : 16 ≤ length low
  pub rows : 32 * count ≤ length maps
  pub few : count ≤ 64
  pub words : w ≤ length chosen
  pub by_place : 64 * w ≤ length starts
  pub row_others : count ≤ length others
  pub row_own : count ≤ length own
  pub inside : (m : ℕ) → m < count → get_or places m 0 < 64 * w
  pub bits : total chosen w ≤ count
  pub spread : Spread places count chosen starts
