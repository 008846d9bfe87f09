-- `slots::read_record` meets its contract.
-- The words below the loop's are the slot's.
use mathlib.Core.Path.{◌≡◌}
use Prim.Native.Nat.{ℕ, ◌≤◌, ◌<◌}
use lib.ListN.{length, get_or}
use Rattle.records.specs.Record.{slot_words}
use Rattle.slots.proofs.read_record.Given as goal

abbrev pub invariant-loop-index : goal.invariant-loop-index
invariant-loop-index l = (l.index ≤ length l.words) × (length l.words ≡ length l.initial.words) × ((j : ℕ) → j < l.index → get_or l.words j 0 ≡ slot_words l.width l.table l.slot j)
