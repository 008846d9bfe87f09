-- A neighbour list seen along one direction: going down a slot's number is its nearest dependant's after it, going up its nearest preceding rule's before it.
-- One definition serves both, so that one proof does. Positions are those of `positions`.
use Rattle.std.specs.Prelude.{◌≡◌, Bool, true, false, not, cond, ◌&&◌, ◌||◌, List, ℕ, ◌+◌, ◌-◌, ◌*◌, ◌<◌, eqb, ltb, leb, get_or}
use Rattle.search.specs.Search.{least}
use Rattle.positions.specs.Positions.{slot_at}
use Rattle.records.specs.Record.{slot_words, empty}
use Rattle.records.specs.Order.{slots, overlap_at}
use Rattle.records.specs.Entries.{SameRecord}
use Rattle.neighbour_lists.specs.Lists.{precedes_slot, next_dependant, last_preceding, Listed}

-- the rule in slot j bounds that in slot i along a direction: going down it depends on it, going up it precedes it
unfoldable pub bounded_by : ℕ → Bool → List ℕ → Bool → ℕ → ℕ → Bool
bounded_by w u t true i j = precedes_slot w u t j i
bounded_by w u t false i j = precedes_slot w u t i j

-- a slot's number along a direction, and where it stands in a list
unfoldable pub number_along : ℕ → Bool → List ℕ → Bool → ℕ → ℕ
number_along w u t true i = last_preceding w u t i
number_along w u t false i = next_dependant w u t i

abbrev pub place_along : Bool → ℕ → ℕ
place_along up i = cond up (2 * i + 1) (2 * i)

-- among n positions, the slot at the first one from a start on at which a test holds; 65,535 for none
unfoldable pub found_from : ℕ → Bool → (ℕ → Bool) → ℕ → ℕ
found_from n up p from = cond (ltb (least p (n - from) from) n) (slot_at n up (least p (n - from) from)) 65535

-- the slot at a position bounds slot i; the nearest one that does, from a position on
abbrev pub bounded_at : ℕ → Bool → List ℕ → Bool → ℕ → ℕ → Bool
bounded_at w u t up i q = bounded_by w u t up i (slot_at (slots w t) up q)

abbrev pub nearest_from : ℕ → Bool → List ℕ → Bool → ℕ → ℕ → ℕ
nearest_from w u t up i from = found_from (slots w t) up (bounded_at w u t up i) from

-- the first two words do not tell the patterns of two slots apart
abbrev pub may_overlap : ℕ → List ℕ → ℕ → ℕ → Bool
may_overlap w t i j = overlap_at w (slot_words w t i) (slot_words w t j) 0 && overlap_at w (slot_words w t i) (slot_words w t j) 1

-- a number is none, a slot's, or that of one further on
unfoldable pub reaches_slot : Bool → ℕ → ℕ → Bool
reaches_slot up number slot = cond (up && not (eqb number 65535)) (leb number slot) (leb slot number)

-- a slot is asked again: its number was the written slot, or may become it, where both hold a rule
unfoldable pub asks_number : ℕ → List ℕ → ℕ → ℕ → ℕ → Bool → Bool → Bool
asks_number w t number slot written vacant up =
    eqb number written || (not vacant && (reaches_slot up number written && (may_overlap w t slot written && not (empty w (slot_words w t slot)))))

-- the slot at a position, by its number in a list
abbrev pub asks_at : ℕ → List ℕ → List ℕ → ℕ → Bool → Bool → ℕ → Bool
asks_at w t list written vacant up q =
    asks_number w t (get_or list (place_along up (slot_at (slots w t) up q)) 0) (slot_at (slots w t) up q) written vacant up

-- a table as it was before a write to one slot: every other slot holds what it held
abbrev pub BeforeWrite : ℕ → List ℕ → ℕ → List ℕ → Type 0
BeforeWrite w t slot old = (slots w old ≡ slots w t) × ((k : ℕ) → k < slots w t → (k ≡ slot → ⊥) → SameRecord w (slot_words w old k) (slot_words w t k))

-- a list's numbers along a direction are a table's
abbrev pub ListedAlong : ℕ → Bool → List ℕ → Bool → List ℕ → Type 0
ListedAlong w u t up list = (i : ℕ) → i < slots w t → get_or list (place_along up i) 0 ≡ number_along w u t up i

-- a list is that of the table as it was before a write to one slot
abbrev pub ListedBefore : ℕ → Bool → List ℕ → ℕ → List ℕ → Type 0
ListedBefore w u t slot list = (old : List ℕ) × BeforeWrite w t slot old × Listed w u old list

-- the same along a direction, and of one number
abbrev pub AlongBefore : ℕ → Bool → List ℕ → ℕ → Bool → List ℕ → Type 0
AlongBefore w u t slot up list = (old : List ℕ) × BeforeWrite w t slot old × ListedAlong w u old up list

abbrev pub NumberBefore : ℕ → Bool → List ℕ → ℕ → Bool → ℕ → ℕ → Type 0
NumberBefore w u t slot up i number = (old : List ℕ) × BeforeWrite w t slot old × (number ≡ number_along w u old up i)
