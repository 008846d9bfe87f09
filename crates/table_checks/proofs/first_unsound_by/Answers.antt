-- `table_checks::first_unsound_by` meets its contract.
-- No slot below the loop's is neither empty nor sound.
use mathlib.Core.Path.{sym, ◌∙◌}
use native.Mathlib.Omega.{arith}
use Rattle.search.specs.SearchLaws.{none_more, least_at, least_none}
use Rattle.table_checks.proofs.first_unsound_by.Goals as goal

pub loop-slot-init : goal.loop-slot-init
loop-slot-init c =
    let none = c.requires.1 in (omega (arith, none.1, c.slot_count-slots.ensures), λ k h. none.2 k (omega arith) h)

pub slot_unsound-requires : goal.slot_unsound-requires
slot_unsound-requires c = (c.requires.0, omega arith)

pub returns-then-slot_unsound : goal.returns-then-slot_unsound
returns-then-slot_unsound c = sym (least_at _ _ _ (omega arith) c.loop-slot.invariant.1 (sym c.slot_unsound.ensures ∙ c.if-slot_unsound.true))

pub loop-slot-preserved : goal.loop-slot-preserved
loop-slot-preserved c = none_more _ _ _ c.loop-slot.invariant (omega arith) (sym c.slot_unsound.ensures ∙ c.if-slot_unsound.false)

pub returns : goal.returns
returns c = c.slot_count-slots.ensures ∙ sym (least_none _ _ (λ k h. c.loop-slot.invariant.1 k (omega arith)))
