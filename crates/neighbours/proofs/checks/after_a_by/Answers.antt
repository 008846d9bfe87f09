-- `neighbours::checks::after_a_by` meets its contract.
-- No slot from the loop's on precedes the new rule.
use mathlib.Core.Path.{sym, ◌∙◌}
use native.Mathlib.Omega.{arith}
use Rattle.search.specs.SearchLaws.{none_above, none_lower, after_last_at, after_last_none}
use Rattle.records.proofs.WidthsLaws.{lent_slot}
use Rattle.neighbours.specs.Neighbours.{after_a}
use Rattle.neighbours.proofs.checks.after_a_by.Goals as goal

pub loop-slot-init : goal.loop-slot-init
loop-slot-init c = rw c.slot_count-slots.ensures (none_above _ _)

pub precedes_pair-requires : goal.precedes_pair-requires
precedes_pair-requires c = record { width = (c.requires.0, omega arith, lent_slot c.args.mode.width c.args.new.now c.requires.1); table_value = (c.requires.2, c.requires.3) }

pub returns-then-precedes_pair : goal.returns-then-precedes_pair
unfolding after_a
returns-then-precedes_pair c =
    omega (arith, after_last_at _ _ _ c.loop-slot.invariant (omega arith) (sym c.precedes_pair.ensures ∙ c.if-precedes_pair.true))

pub loop-slot-preserved : goal.loop-slot-preserved
loop-slot-preserved c = none_lower _ _ _ c.loop-slot.invariant (omega arith) (sym c.precedes_pair.ensures ∙ c.if-precedes_pair.false)

pub returns : goal.returns
unfolding after_a
returns c = sym (after_last_none _ _ _ c.loop-slot.invariant (omega arith))
