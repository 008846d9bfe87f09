-- `table_checks::first_unsound_by` meets its contract.
-- No slot below the loop's is neither empty nor sound.
use Rattle.search.specs.SearchLaws.{NoneBelow}
use Rattle.records.specs.Checks.{unsound_at}
use Rattle.table_checks.proofs.first_unsound_by.Given as goal

abbrev pub invariant-loop-slot : goal.invariant-loop-slot
invariant-loop-slot l = NoneBelow (unsound_at l.width l.table) l.slots l.slot
