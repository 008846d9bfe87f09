-- `neighbours::checks::check_tie_by` meets its contract.
-- No slot below the loop's ties with the new rule.
use mathlib.Core.Path.{sym, ◌∙◌}
use native.Mathlib.Omega.{arith}
use Rattle.search.specs.SearchLaws.{none_start, none_more}
use Rattle.records.proofs.ChecksLaws.{lowest_at_lem, lowest_none}
use Rattle.records.proofs.WidthsLaws.{lent_slot}
use Rattle.neighbours.specs.Neighbours.{check_tie}
use Rattle.neighbours.proofs.checks.check_tie_by.Goals as goal

pub loop-slot-init : goal.loop-slot-init
loop-slot-init c = none_start _ _

pub tied_pair-requires : goal.tied_pair-requires
tied_pair-requires c = record { width = (c.requires.0, omega arith, lent_slot c.args.mode.width c.args.new.now c.requires.2); table_value = (c.requires.3, c.requires.4) }

pub returns-then-tied_pair : goal.returns-then-tied_pair
unfolding check_tie
returns-then-tied_pair c = lowest_at_lem _ _ _ _ (omega arith) c.loop-slot.invariant.1 (sym c.tied_pair.ensures ∙ c.if-tied_pair.true)

pub loop-slot-preserved : goal.loop-slot-preserved
loop-slot-preserved c = none_more _ _ _ c.loop-slot.invariant (omega arith) (sym c.tied_pair.ensures ∙ c.if-tied_pair.false)

pub returns : goal.returns
unfolding check_tie
returns c = lowest_none _ _ _ (λ k h. c.loop-slot.invariant.1 k (omega arith))
