-- Document 01, "How a plan is found": down and up cost of a slot in the paper's own words, by the table's words and by which rule precedes which.
-- Both directions by one definition: `toward i j` says that slot j comes after slot i, `bounds i y` that the rule in y bounds how far that in i may go.
use Rattle.std.specs.Prelude.{◌≡◌, Bool, true, false, ◌↔◌, List, ℕ, suc, ◌≤◌, ◌<◌}
use Rattle.records.specs.Record.{slot_words, empty}
use Rattle.records.specs.Order.{slots}
use Rattle.neighbour_lists.specs.Lists.{precedes_slot}

-- the rule in slot y depends on that in slot i: what bounds it going down, toward higher slots
abbrev pub depends_at : ℕ → Bool → List ℕ → ℕ → ℕ → Bool
depends_at w u t i y = precedes_slot w u t i y

-- the rule in slot y precedes that in slot i: what bounds it going up, toward lower slots
abbrev pub precedes_at : ℕ → Bool → List ℕ → ℕ → ℕ → Bool
precedes_at w u t i y = precedes_slot w u t y i

-- d is the nearest of n slots with a rule that bounds that of slot i: its nearest dependant going down, the nearest rule that precedes it going up
pub record Nearest (toward : ℕ → ℕ → Type 0) (bounds : ℕ → ℕ → Bool) (n i d : ℕ) : Type 0 where
  pub within : d < n
  pub after : toward i d
  pub bounding : bounds i d ≡ true
  pub none_nearer : (y : ℕ) → y < n → toward i y → toward y d → bounds i y ≡ false

-- Slot j is one of those that the cost of slot i looks at: after i, up to and including the nearest such slot, or up to the last one if there is none.
pub record InReach (toward : ℕ → ℕ → Type 0) (bounds : ℕ → ℕ → Bool) (n i j : ℕ) : Type 0 where
  pub within : j < n
  pub after : toward i j
  pub not_past : (d : ℕ) → Nearest toward bounds n i d → toward d j → ⊥

-- What a cost is, along a direction, infinite where it is N or more: 0 if the slot is empty, else 1 + the least cost of the slots in reach.
pub record CostOfReach (w : ℕ) (t : List ℕ) (toward : ℕ → ℕ → Type 0) (bounds : ℕ → ℕ → Bool) (cost : ℕ → ℕ) : Type 0 where
  pub vacant : (i : ℕ) → i < slots w t → empty w (slot_words w t i) ≡ true → cost i ≡ 0
  -- no slot in reach costs less
  pub least : (i j : ℕ) → i < slots w t → empty w (slot_words w t i) ≡ false → InReach toward bounds (slots w t) i j → cost i ≤ suc (cost j)
  -- and one in reach costs so much, if the cost is finite
  pub attained : (i : ℕ) → i < slots w t → empty w (slot_words w t i) ≡ false → cost i < slots w t
      → (j : ℕ) × InReach toward bounds (slots w t) i j × (cost i ≡ suc (cost j))
  -- it is infinite exactly where each slot in reach is, as where there is none
  pub infinite : (i : ℕ) → i < slots w t → empty w (slot_words w t i) ≡ false
      → (slots w t ≤ cost i) ↔ ((j : ℕ) → InReach toward bounds (slots w t) i j → slots w t ≤ cost j)
