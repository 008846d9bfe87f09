-- `slots::slot_within` meets its contract.
-- Each value word below the loop's lies within its mask.
use mathlib.Core.Path.{sym, ◌∙◌}
use native.Mathlib.Omega.{arith}
use borrow.Author.Tests.{not-true, not-false}
use Rattle.search.specs.SearchLaws.{all_start, all_more, all_end, all_out}
use Rattle.ternary.specs.Pattern.{within}
use Rattle.slots.proofs.slot_within.Goals as goal

pub loop-index-init : goal.loop-index-init
loop-index-init c = all_start _ _

pub returns-then-not-word_inside : goal.returns-then-not-word_inside
unfolding within
returns-then-not-word_inside c = all_out _ _ _ (omega arith) (sym c.word_inside.ensures ∙ not-true _ c.if-not-word_inside.true-raw)

pub loop-index-preserved : goal.loop-index-preserved
loop-index-preserved c = all_more _ _ _ c.loop-index.invariant (omega arith) (sym c.word_inside.ensures ∙ not-false _ c.if-not-word_inside.false-raw)

pub returns : goal.returns
unfolding within
returns c = all_end _ _ _ c.loop-index.invariant (omega arith)
