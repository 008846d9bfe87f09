-- `neighbours::checks::check_known_by` meets its contract.
-- No slot below the loop's has the new rule's id.
use Prim.Native.Nat.{ℕ}
use Rattle.search.specs.SearchLaws.{NoneBelow}
use Rattle.records.specs.Record.{slot_words}
use Rattle.records.specs.Order.{same_id}
use Rattle.neighbours.proofs.checks.check_known_by.Given as goal

abbrev pub invariant-loop-slot : goal.invariant-loop-slot
invariant-loop-slot l = NoneBelow (λ (i : ℕ). same_id l.mode.width (slot_words l.mode.width l.table i) (slot_words l.mode.width l.new 0)) l.slots l.slot
