-- `table_checks::ids::lowest_twice_by` meets its contract.
-- No slot below the loop's has an id that an earlier one has, and the map has the bits of their ids.
use mathlib.Core.Path.{◌≡◌}
use lib.ListN.{length}
use Rattle.search.specs.SearchLaws.{NoneBelow}
use Rattle.records.specs.Checks.{twice_at}
use Rattle.table_checks.specs.Ids.{SeenTo}
use Rattle.table_checks.proofs.ids.lowest_twice_by.Given as goal

abbrev pub invariant-loop-slot : goal.invariant-loop-slot
invariant-loop-slot l = NoneBelow (twice_at l.width l.table) l.slots l.slot × (length l.seen ≡ length l.initial.seen) × SeenTo l.ids l.seen l.slot
