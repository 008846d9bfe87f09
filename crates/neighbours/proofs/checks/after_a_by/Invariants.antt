-- `neighbours::checks::after_a_by` meets its contract.
-- No slot from the loop's on precedes the new rule.
use Prim.Native.Nat.{ℕ}
use Rattle.search.specs.Search.{NoneAbove}
use Rattle.records.specs.Record.{slot_words}
use Rattle.records.specs.Order.{slots, precedes}
use Rattle.neighbours.proofs.checks.after_a_by.Given as goal

abbrev pub invariant-loop-slot : goal.invariant-loop-slot
invariant-loop-slot l = NoneAbove (λ (i : ℕ). precedes l.mode.width l.mode.uncounted (slot_words l.mode.width l.table i) (slot_words l.mode.width l.new 0)) (slots l.mode.width l.table) l.slot
