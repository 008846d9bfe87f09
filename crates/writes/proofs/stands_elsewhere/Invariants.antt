-- `writes::stands_elsewhere` meets its contract.
-- No slot below the loop's, but for the slot itself, has the slot's id.
use Rattle.search.specs.SearchLaws.{NoneBelow}
use Rattle.records.specs.Writes.{held_at}
use Rattle.writes.proofs.stands_elsewhere.Given as goal

abbrev pub invariant-loop-other : goal.invariant-loop-other
invariant-loop-other l = NoneBelow (held_at l.width l.table l.slot) l.slots l.other
