-- `neighbours::checks::check_tie_by` meets its contract.
-- No slot below the loop's ties with the new rule.
use Prim.Native.Nat.{ℕ}
use Rattle.search.specs.SearchLaws.{NoneBelow}
use Rattle.records.specs.Record.{slot_words}
use Rattle.records.specs.Order.{tied}
use Rattle.neighbours.proofs.checks.check_tie_by.Given as goal

abbrev pub invariant-loop-slot : goal.invariant-loop-slot
invariant-loop-slot l = NoneBelow (λ (i : ℕ). tied l.mode.width l.mode.uncounted (slot_words l.mode.width l.table i) (slot_words l.mode.width l.new 0)) l.slots l.slot
