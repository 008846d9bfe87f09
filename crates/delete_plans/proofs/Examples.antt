-- Worked examples: document 01's number for a delete of an absent id is 7, with spot 0, by computation.
use Rattle.std.specs.Prelude.{◌≡◌, refl, [], ◌∷◌}
use Rattle.search.specs.Search.{least}
use Rattle.records.specs.Record.{empty}
use Rattle.records.specs.Checks.{success, unless}
use Rattle.delete_plans.specs.Deletes.{has_id, slot_of_id, check_unknown}

-- a table of one empty slot
absent_id_seven : unless (check_unknown 2 (0 ∷ 0 ∷ 0 ∷ 0 ∷ 0 ∷ 0 ∷ []) 5) (success []) ≡ record { number = 7; values = 0 ∷ [] }
unfolding check_unknown slot_of_id has_id least empty
absent_id_seven = refl
