-- `neighbours::checks::covering_slot` meets its contract.
-- No slot below the loop's obscures the new rule.
use Prim.Native.Nat.{ℕ}
use Rattle.search.specs.SearchLaws.{NoneBelow}
use Rattle.records.specs.Record.{slot_words}
use Rattle.records.specs.Order.{obscures}
use Rattle.neighbours.proofs.checks.covering_slot.Given as goal

abbrev pub invariant-loop-slot : goal.invariant-loop-slot
invariant-loop-slot l = NoneBelow (λ (i : ℕ). obscures l.width (slot_words l.width l.table i) (slot_words l.width l.new 0)) l.slots l.slot
