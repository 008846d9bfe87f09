-- `table_checks::skip_unmatched_by` meets its contract.
-- No slot from the first up to the loop's may match.
use mathlib.Core.Path.{sym, ◌∙◌}
use native.Mathlib.Omega.{arith}
use Rattle.search.specs.SearchLaws.{none_from_start}
use Rattle.search.specs.PartsLaws.{none_from_four}
use Rattle.table_checks.proofs.skip_unmatched_by.Goals as goal

pub loop-four-init : goal.loop-four-init
loop-four-init c = (omega arith, none_from_start _ _ _ (omega arith))

pub one_may_match-requires : goal.one_may_match-requires
one_may_match-requires c = (c.requires.0, omega arith)

pub returns-then-one_may_match : goal.returns-then-one_may_match
returns-then-one_may_match c = c.loop-four.invariant.1

pub loop-four-preserved : goal.loop-four-preserved
loop-four-preserved c = (omega arith, none_from_four _ _ _ _ c.loop-four.invariant.1 (omega arith) (sym c.one_may_match.ensures ∙ c.if-one_may_match.false))

pub returns : goal.returns
returns c = c.loop-four.invariant.1
