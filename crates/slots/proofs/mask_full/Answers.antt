-- `slots::mask_full` meets its contract.
-- Each mask word below the loop's has every bit set.
use mathlib.Core.Path.{sym, ap, ◌∙◌}
use native.Mathlib.Omega.{arith}
use borrow.Author.Tests.{not-true, not-false}
use Rattle.search.specs.SearchLaws.{all_start, all_more, all_end, all_out}
use Rattle.ternary.specs.Word.{inside, ones}
use Rattle.ternary.specs.Pattern.{full_mask}
use Rattle.slots.proofs.mask_full.Goals as goal

pub loop-index-init : goal.loop-index-init
loop-index-init c = all_start _ _

-- whether the loop's word is full
pub returns-then-not-word_full : goal.returns-then-not-word_full
unfolding full_mask
returns-then-not-word_full c =
    all_out _ _ _ (omega arith)
    (ap (inside ones) (sym c.mask_word.ensures) ∙ (sym c.word_full.ensures ∙ not-true _ c.if-not-word_full.true-raw))

pub loop-index-preserved : goal.loop-index-preserved
loop-index-preserved c =
    all_more _ _ _ c.loop-index.invariant (omega arith)
    (ap (inside ones) (sym c.mask_word.ensures) ∙ (sym c.word_full.ensures ∙ not-false _ c.if-not-word_full.false-raw))

pub returns : goal.returns
unfolding full_mask
returns c = all_end _ _ _ c.loop-index.invariant (omega arith)
