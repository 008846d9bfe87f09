-- `table_checks::skip_plain` meets its contract.
-- Each slot below the loop's is empty or holds a rule that is sound as one is given, and so a sound record.
use Rattle.search.specs.SearchLaws.{NoneBelow}
use Rattle.records.specs.Checks.{unsound_at}
use Rattle.table_checks.proofs.skip_plain.Given as goal

abbrev pub invariant-loop-slot : goal.invariant-loop-slot
invariant-loop-slot l = NoneBelow (unsound_at l.width l.table) l.slots l.slot
