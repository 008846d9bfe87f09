-- `slots::slot_zero_by` meets its contract.
-- The flag says whether the words below the loop's are zero.
use mathlib.Core.Path.{◌≡◌}
use Prim.Native.Nat.{ℕ, ◌≤◌}
use lib.Dec.{eqb}
use Rattle.search.specs.Search.{all}
use Rattle.records.specs.Record.{record_words, slot_words}
use Rattle.slots.proofs.slot_zero_by.Given as goal

abbrev pub invariant-loop-index : goal.invariant-loop-index
invariant-loop-index l = (l.index ≤ record_words l.width) × (l.zero ≡ all (λ (j : ℕ). eqb (slot_words l.width l.table l.slot j) 0) l.index)
