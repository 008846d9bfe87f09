-- `slots::pattern_matches` meets its contract.
-- The key agrees in each word below the loop's.
use mathlib.Core.Path.{sym, ◌∙◌}
use native.Mathlib.Omega.{arith}
use borrow.Author.Tests.{not-true, not-false}
use Rattle.search.specs.SearchLaws.{all_start, all_more, all_end, all_out}
use Rattle.ternary.specs.Pattern.{matches}
use Rattle.slots.proofs.pattern_matches.Goals as goal

pub loop-index-init : goal.loop-index-init
loop-index-init c = all_start _ _

pub returns-then-not-word_agrees : goal.returns-then-not-word_agrees
unfolding matches
returns-then-not-word_agrees c = all_out _ _ _ (omega arith) (sym c.word_agrees.ensures ∙ not-true _ c.if-not-word_agrees.true-raw)

pub loop-index-preserved : goal.loop-index-preserved
loop-index-preserved c = all_more _ _ _ c.loop-index.invariant (omega arith) (sym c.word_agrees.ensures ∙ not-false _ c.if-not-word_agrees.false-raw)

pub returns : goal.returns
unfolding matches
returns c = all_end _ _ _ c.loop-index.invariant (omega arith)
