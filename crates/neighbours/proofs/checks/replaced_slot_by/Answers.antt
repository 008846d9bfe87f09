-- `neighbours::checks::replaced_slot_by` meets its contract.
-- No slot below the loop's holds a rule equal to the new one.
use mathlib.Core.Path.{sym, ◌∙◌}
use native.Mathlib.Omega.{arith}
use Rattle.search.specs.SearchLaws.{none_start, none_more, least_at, least_none}
use Rattle.records.proofs.WidthsLaws.{lent_slot}
use Rattle.neighbours.specs.Neighbours.{replaced_slot}
use Rattle.neighbours.proofs.checks.replaced_slot_by.Goals as goal

pub loop-slot-init : goal.loop-slot-init
loop-slot-init c = none_start _ _

pub replaceable_pair-requires : goal.replaceable_pair-requires
replaceable_pair-requires c = (c.requires.0, omega arith, lent_slot c.args.mode.width c.args.new.now c.requires.1)

pub returns-then-replaceable_pair : goal.returns-then-replaceable_pair
unfolding replaced_slot
returns-then-replaceable_pair c = sym (least_at _ _ _ (omega arith) c.loop-slot.invariant.1 (sym c.replaceable_pair.ensures ∙ c.if-replaceable_pair.true))

pub loop-slot-preserved : goal.loop-slot-preserved
loop-slot-preserved c = none_more _ _ _ c.loop-slot.invariant (omega arith) (sym c.replaceable_pair.ensures ∙ c.if-replaceable_pair.false)

pub returns : goal.returns
unfolding replaced_slot
returns c = c.slot_count-slots.ensures ∙ sym (least_none _ _ (λ k h. c.loop-slot.invariant.1 k (omega arith)))
