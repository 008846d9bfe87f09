-- `delete_plans::slot_of_id` meets its contract.
-- No slot below the loop's has the id.
use mathlib.Core.Path.{sym, ◌∙◌}
use native.Mathlib.Omega.{arith}
use Rattle.search.specs.SearchLaws.{none_start, none_more, least_at, least_none}
use Rattle.delete_plans.specs.Deletes.{slot_of_id}
use Rattle.delete_plans.proofs.slot_of_id.Goals as goal

pub loop-slot-init : goal.loop-slot-init
loop-slot-init c = none_start _ _

pub has_id-requires : goal.has_id-requires
has_id-requires c = (c.requires, omega arith)

pub returns-then-has_id : goal.returns-then-has_id
unfolding slot_of_id
returns-then-has_id c = sym (least_at _ _ _ (omega arith) c.loop-slot.invariant.1 (sym c.has_id.ensures ∙ c.if-has_id.true))

pub loop-slot-preserved : goal.loop-slot-preserved
loop-slot-preserved c = none_more _ _ _ c.loop-slot.invariant (omega arith) (sym c.has_id.ensures ∙ c.if-has_id.false)

pub returns : goal.returns
unfolding slot_of_id
returns c = c.slot_count-slots.ensures ∙ sym (least_none _ _ (λ k h. c.loop-slot.invariant.1 k (omega arith)))
