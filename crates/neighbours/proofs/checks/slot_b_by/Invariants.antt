-- `neighbours::checks::slot_b_by` meets its contract.
-- No slot below the loop's depends on the new rule.
use Prim.Native.Nat.{ℕ}
use Rattle.search.specs.SearchLaws.{NoneBelow}
use Rattle.records.specs.Record.{slot_words}
use Rattle.records.specs.Order.{precedes}
use Rattle.neighbours.proofs.checks.slot_b_by.Given as goal

abbrev pub invariant-loop-slot : goal.invariant-loop-slot
invariant-loop-slot l = NoneBelow (λ (i : ℕ). precedes l.mode.width l.mode.uncounted (slot_words l.mode.width l.new 0) (slot_words l.mode.width l.table i)) l.slots l.slot
