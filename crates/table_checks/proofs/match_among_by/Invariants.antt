-- `table_checks::match_among_by` meets its contract.
-- The search from the loop's slot on finds what the search from the first does.
use Prim.Native.Nat.{◌-◌, ◌≤◌}
use mathlib.Core.Path.{◌≡◌}
use Rattle.search.specs.Search.{least}
use Rattle.records.specs.Record.{word}
use Rattle.records.specs.Checks.{compared_at}
use Rattle.table_checks.proofs.match_among_by.Given as goal

abbrev pub invariant-loop-slot : goal.invariant-loop-slot
invariant-loop-slot l = (l.slot ≤ l.to) × (least (compared_at l.width l.table (word l.key)) (l.to - l.from) l.from ≡ least (compared_at l.width l.table (word l.key)) (l.to - l.slot) l.slot)
