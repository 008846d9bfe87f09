-- `slots::mask_full` meets its contract.
-- Each mask word below the loop's has every bit set.
use Prim.Native.Nat.{ℕ}
use Rattle.search.specs.Search.{AllBelow}
use Rattle.ternary.specs.Word.{inside, ones}
use Rattle.records.specs.Record.{slot_words, mask}
use Rattle.slots.proofs.mask_full.Given as goal

abbrev pub invariant-loop-index : goal.invariant-loop-index
invariant-loop-index l = AllBelow (λ (j : ℕ). inside ones (mask l.width (slot_words l.width l.table l.slot) j)) l.width l.index
