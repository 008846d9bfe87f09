-- `neighbours::checks::slot_b_by` meets its contract.
-- No slot below the loop's depends on the new rule.
use mathlib.Core.Path.{sym, ◌∙◌}
use native.Mathlib.Omega.{arith}
use Rattle.search.specs.SearchLaws.{none_start, none_more, least_at, least_none}
use Rattle.records.proofs.WidthsLaws.{lent_slot}
use Rattle.neighbours.specs.Neighbours.{slot_b}
use Rattle.neighbours.proofs.checks.slot_b_by.Goals as goal

pub loop-slot-init : goal.loop-slot-init
loop-slot-init c = none_start _ _

pub precedes_pair-requires : goal.precedes_pair-requires
precedes_pair-requires c = record { width = (c.requires.0, lent_slot c.args.mode.width c.args.new.now c.requires.1, omega arith); table_value = (c.requires.3, c.requires.2) }

pub returns-then-precedes_pair : goal.returns-then-precedes_pair
unfolding slot_b
returns-then-precedes_pair c = sym (least_at _ _ _ (omega arith) c.loop-slot.invariant.1 (sym c.precedes_pair.ensures ∙ c.if-precedes_pair.true))

pub loop-slot-preserved : goal.loop-slot-preserved
loop-slot-preserved c = none_more _ _ _ c.loop-slot.invariant (omega arith) (sym c.precedes_pair.ensures ∙ c.if-precedes_pair.false)

pub returns : goal.returns
unfolding slot_b
returns c = c.slot_count-slots.ensures ∙ sym (least_none _ _ (λ k h. c.loop-slot.invariant.1 k (omega arith)))
