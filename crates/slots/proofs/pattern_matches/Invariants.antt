-- `slots::pattern_matches` meets its contract.
-- The key agrees in each word below the loop's.
use Prim.Native.Nat.{ℕ}
use Rattle.search.specs.Search.{AllBelow}
use Rattle.ternary.specs.Word.{agree}
use Rattle.records.specs.Record.{word, slot_words, value, mask}
use Rattle.slots.proofs.pattern_matches.Given as goal

abbrev pub invariant-loop-index : goal.invariant-loop-index
invariant-loop-index l = AllBelow (λ (j : ℕ). agree (word l.key j) (value (slot_words l.width l.table l.slot) j) (mask l.width (slot_words l.width l.table l.slot) j)) l.width l.index
