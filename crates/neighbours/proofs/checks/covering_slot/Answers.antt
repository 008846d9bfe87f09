-- `neighbours::checks::covering_slot` meets its contract.
-- No slot below the loop's obscures the new rule.
use mathlib.Core.Path.{sym, ◌∙◌}
use native.Mathlib.Omega.{arith}
use Rattle.search.specs.SearchLaws.{none_start, none_more, first_from_at, first_from_none}
use Rattle.records.proofs.WidthsLaws.{lent_slot}
use Rattle.neighbours.specs.Neighbours.{covering_slot}
use Rattle.neighbours.proofs.checks.covering_slot.Goals as goal

pub loop-slot-init : goal.loop-slot-init
loop-slot-init c = none_start _ _

pub obscures_pair-requires : goal.obscures_pair-requires
obscures_pair-requires c = (c.requires.0, omega arith, lent_slot c.args.width c.args.new.now c.requires.2)

pub returns-then-obscures_pair : goal.returns-then-obscures_pair
unfolding covering_slot
returns-then-obscures_pair c =
    sym (first_from_at _ _ _ _ (omega arith) (omega arith) (sym c.obscures_pair.ensures ∙ c.if-obscures_pair.true) (λ k l h. c.loop-slot.invariant.1 k h))

pub loop-slot-preserved : goal.loop-slot-preserved
loop-slot-preserved c = none_more _ _ _ c.loop-slot.invariant (omega arith) (sym c.obscures_pair.ensures ∙ c.if-obscures_pair.false)

pub returns : goal.returns
unfolding covering_slot
returns c = sym (first_from_none _ _ _ (omega arith) (λ k l h. c.loop-slot.invariant.1 k (omega arith)))
