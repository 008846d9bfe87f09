-- `delete_plans::slot_of_id` meets its contract.
-- No slot below the loop's has the id.
use Rattle.search.specs.SearchLaws.{NoneBelow}
use Rattle.delete_plans.specs.Deletes.{has_id}
use Rattle.delete_plans.proofs.slot_of_id.Given as goal

abbrev pub invariant-loop-slot : goal.invariant-loop-slot
invariant-loop-slot l = NoneBelow (has_id l.width l.table l.id) l.slots l.slot
