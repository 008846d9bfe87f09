-- `table_checks::first_match` meets its contract.
-- No slot below the loop's matches: those passed over may not, and those compared do not.
use Prim.Native.Nat.{◌-◌}
use Rattle.search.specs.Search.{NoneFrom}
use Rattle.records.specs.Record.{word}
use Rattle.records.specs.Order.{slots}
use Rattle.records.specs.Checks.{compared_at}
use Rattle.table_checks.proofs.first_match.Given as goal

abbrev pub invariant-loop-slot : goal.invariant-loop-slot
invariant-loop-slot l = NoneFrom (compared_at l.width l.table (word l.key)) 0 (slots l.width l.table) l.slot

abbrev pub decreases-loop-slot : goal.decreases-loop-slot
decreases-loop-slot l = l.slots - l.slot
