-- `table_checks::ids::id_before` meets its contract.
-- No slot below the loop's has the slot's id.
use Prim.Native.Nat.{ℕ}
use Rattle.search.specs.SearchLaws.{NoneBelow}
use Rattle.records.specs.Record.{slot_words}
use Rattle.records.specs.Order.{same_id}
use Rattle.table_checks.proofs.ids.id_before.Given as goal

abbrev pub invariant-loop-earlier : goal.invariant-loop-earlier
invariant-loop-earlier l = NoneBelow (λ (i : ℕ). same_id l.width (slot_words l.width l.table i) (slot_words l.width l.table l.slot)) l.slot l.earlier
