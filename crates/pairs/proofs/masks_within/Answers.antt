-- `pairs::masks_within` meets its contract.
-- The mask lies within the other's in each word below the loop's.
use mathlib.Core.Path.{sym, ◌∙◌}
use native.Mathlib.Omega.{arith}
use borrow.Author.Tests.{not-true, not-false}
use Rattle.search.specs.SearchLaws.{all_start, all_more, all_end, all_out}
use Rattle.ternary.specs.Comparison.{masks_within}
use Rattle.pairs.proofs.masks_within.Goals as goal

pub loop-index-init : goal.loop-index-init
loop-index-init c = all_start _ _

pub returns-then-not-mask_within : goal.returns-then-not-mask_within
unfolding masks_within
returns-then-not-mask_within c = all_out _ _ _ (omega arith) (sym c.mask_within.ensures ∙ not-true _ c.if-not-mask_within.true-raw)

pub loop-index-preserved : goal.loop-index-preserved
loop-index-preserved c = all_more _ _ _ c.loop-index.invariant (omega arith) (sym c.mask_within.ensures ∙ not-false _ c.if-not-mask_within.false-raw)

pub returns : goal.returns
unfolding masks_within
returns c = all_end _ _ _ c.loop-index.invariant (omega arith)
