-- `neighbours::checks::check_known_by` meets its contract.
-- No slot below the loop's has the new rule's id.
use mathlib.Core.Path.{sym, ◌∙◌}
use native.Mathlib.Omega.{arith}
use Rattle.search.specs.SearchLaws.{none_start, none_more}
use Rattle.records.proofs.ChecksLaws.{lowest_at_lem, lowest_none}
use Rattle.records.proofs.WidthsLaws.{lent_slot}
use Rattle.neighbours.specs.Neighbours.{check_known}
use Rattle.neighbours.proofs.checks.check_known_by.Goals as goal

pub loop-slot-init : goal.loop-slot-init
loop-slot-init c = none_start _ _

pub same_id-requires : goal.same_id-requires
same_id-requires c = (c.requires.0, omega arith, lent_slot c.args.mode.width c.args.new.now c.requires.2)

pub returns-then-same_id : goal.returns-then-same_id
unfolding check_known
returns-then-same_id c = lowest_at_lem _ _ _ _ (omega arith) c.loop-slot.invariant.1 (sym c.same_id.ensures ∙ c.if-same_id.true)

pub loop-slot-preserved : goal.loop-slot-preserved
loop-slot-preserved c = none_more _ _ _ c.loop-slot.invariant (omega arith) (sym c.same_id.ensures ∙ c.if-same_id.false)

pub returns : goal.returns
unfolding check_known
returns c = lowest_none _ _ _ (λ k h. c.loop-slot.invariant.1 k (omega arith))
