-- The neighbour list of a table: for each slot the nearest slot after it whose rule depends on its own, and the nearest before it whose
-- rule precedes its own; 65,535 where there is none. Defined on any table, in order or not, for any number of words.
use Rattle.std.specs.Prelude.{◌≡◌, Bool, not, cond, List, ℕ, suc, ◌+◌, ◌-◌, ◌*◌, ◌/◌, ◌%◌, ◌<◌, eqb, ltb, get_or}
use Rattle.search.specs.Search.{all, after_last, first_from}
use Rattle.records.specs.Record.{slot_words, rank, occupied, listed}
use Rattle.records.specs.Order.{slots, precedes, misordered}

-- two slots of a table: the first one's rule precedes the second one's; the first one's standing before the second is out of order
abbrev pub precedes_slot : ℕ → Bool → List ℕ → ℕ → ℕ → Bool
precedes_slot w u t i j = precedes w u (slot_words w t i) (slot_words w t j)

abbrev pub misordered_slots : ℕ → Bool → List ℕ → ℕ → ℕ → Bool
misordered_slots w u t i j = misordered w u (slot_words w t i) (slot_words w t j)

abbrev pub rank_at : ℕ → List ℕ → ℕ → ℕ
rank_at w t i = rank w (slot_words w t i)

abbrev pub occupied_at : ℕ → List ℕ → ℕ → Bool
occupied_at w t i = occupied w (slot_words w t i)

-- the last index below an end at which a test holds; 65,535 for none
unfoldable pub last_below : (ℕ → Bool) → ℕ → ℕ
last_below p to = cond (ltb 0 (after_last p to)) (after_last p to - 1) 65535

-- the nearest dependant's slot after a slot, and the nearest preceding rule's before it
unfoldable pub next_dependant : ℕ → Bool → List ℕ → ℕ → ℕ
next_dependant w u t i = first_from (precedes_slot w u t i) (suc i) (slots w t)

unfoldable pub last_preceding : ℕ → Bool → List ℕ → ℕ → ℕ
last_preceding w u t i = last_below (λ (k : ℕ). precedes_slot w u t k i) i

-- a list that begins with a table's neighbour list
abbrev pub Listed : ℕ → Bool → List ℕ → List ℕ → Type 0
Listed w u t near = (i : ℕ) → i < slots w t → (get_or near (2 * i) 0 ≡ next_dependant w u t i) × (get_or near (2 * i + 1) 0 ≡ last_preceding w u t i)

-- document 02, 2026-10: a list has two numbers for each slot, one behind the other
abbrev pub list_numbers : ℕ → List ℕ → ℕ
list_numbers w t = 2 * slots w t

abbrev pub list_number_at : ℕ → Bool → List ℕ → ℕ → ℕ
list_number_at w u t k = cond (eqb (k % 2) 0) (next_dependant w u t (k / 2)) (last_preceding w u t (k / 2))

-- the list of a table, worked out from the whole of it
unfoldable pub list_of : ℕ → Bool → List ℕ → List ℕ
list_of w u t = listed (list_numbers w t) (list_number_at w u t)

-- one of the first n numbers of a list is another than in a second one
unfoldable pub differing : List ℕ → List ℕ → ℕ → Bool
differing near list n = not (all (λ (k : ℕ). eqb (get_or list k 0) (get_or near k 0)) n)

-- a list of a table's length is not the table's
unfoldable pub stale_list : ℕ → Bool → List ℕ → List ℕ → Bool
stale_list w u t list = differing (list_of w u t) list (list_numbers w t)
