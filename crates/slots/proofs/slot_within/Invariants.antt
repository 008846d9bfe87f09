-- `slots::slot_within` meets its contract.
-- Each value word below the loop's lies within its mask.
use Prim.Native.Nat.{ℕ}
use Rattle.search.specs.Search.{AllBelow}
use Rattle.ternary.specs.Word.{inside}
use Rattle.records.specs.Record.{slot_words, value, mask}
use Rattle.slots.proofs.slot_within.Given as goal

abbrev pub invariant-loop-index : goal.invariant-loop-index
invariant-loop-index l = AllBelow (λ (j : ℕ). inside (value (slot_words l.width l.table l.slot) j) (mask l.width (slot_words l.width l.table l.slot) j)) l.width l.index
