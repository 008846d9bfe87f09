-- `neighbours::checks::check_full` meets its contract.
-- No slot below the loop's is empty.
use Prim.Native.Nat.{ℕ}
use Rattle.search.specs.SearchLaws.{NoneBelow}
use Rattle.records.specs.Record.{slot_words, empty}
use Rattle.neighbours.proofs.checks.check_full.Given as goal

abbrev pub invariant-loop-slot : goal.invariant-loop-slot
invariant-loop-slot l = NoneBelow (λ (i : ℕ). empty l.mode.width (slot_words l.mode.width l.table i)) l.slots l.slot
