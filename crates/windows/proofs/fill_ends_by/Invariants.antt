-- `windows::fill_ends_by` meets its contract.
-- The positions below the loop's have their numbers, and the rest of the array is as it was.
use mathlib.Core.Path.{◌≡◌}
use mathlib.Core.List.{◌++◌}
use Prim.Native.Nat.{◌≤◌}
use lib.ListN.{length, drop}
use Rattle.records.specs.Record.{listed}
use Rattle.windows.specs.Windows.{end_at}
use Rattle.windows.proofs.fill_ends_by.Given as goal

abbrev pub invariant-loop-position : goal.invariant-loop-position
invariant-loop-position l = (l.position ≤ l.slots) × (length l.ends ≡ length l.initial.ends) × (l.ends ≡ listed l.position (end_at l.mode.width l.mode.uncounted l.table l.up) ++ drop l.position l.initial.ends)
