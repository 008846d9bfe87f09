-- `slots::put_record` meets its contract.
-- The words below the loop's are copied into the slot, and the rest of the table is as it was.
use mathlib.Core.Path.{◌≡◌}
use Prim.Native.Nat.{◌+◌, ◌≤◌}
use lib.ListN.{length}
use lib.Seq.{paste}
use Rattle.slots.proofs.put_record.Given as goal

abbrev pub invariant-loop-index : goal.invariant-loop-index
invariant-loop-index l = (l.index ≤ length l.words) × (l.first + length l.words ≤ length l.initial.table) × (length l.table ≡ length l.initial.table) × (l.table ≡ paste l.initial.table l.first l.words l.index)
