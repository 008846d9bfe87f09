-- `table_checks::ids::fill_ids_by` meets its contract.
-- The column's entries below the loop's slot are those slots' ids.
use mathlib.Core.Path.{◌≡◌}
use Prim.Native.Nat.{◌≤◌}
use lib.ListN.{length}
use Rattle.table_checks.specs.Ids.{IdColumn}
use Rattle.table_checks.proofs.ids.fill_ids_by.Given as goal

abbrev pub invariant-loop-slot : goal.invariant-loop-slot
invariant-loop-slot l = (l.slot ≤ l.slots) × (length l.ids ≡ length l.initial.ids) × IdColumn l.width l.table l.ids l.slot
