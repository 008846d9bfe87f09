-- `image_checks::body_full_by` meets its contract.
-- Each mask word below the loop's has every bit set.
use mathlib.Core.Path.{sym, ap, ◌∙◌}
use native.Mathlib.Omega.{arith}
use Rattle.search.specs.SearchLaws.{all_start, all_more, all_end, all_out}
use Rattle.ternary.specs.Word.{inside, ones}
use Rattle.ternary.specs.Pattern.{full_mask}
use Rattle.image_checks.proofs.body_full_by.Goals as goal

pub loop-index-init : goal.loop-index-init
loop-index-init c = all_start _ _

pub returns-then-not-word_full : goal.returns-then-not-word_full
unfolding full_mask
returns-then-not-word_full c =
    all_out _ _ _ (omega arith)
    (sym (c.word_full.ensures ∙ ap (inside ones) c.word_at.ensures) ∙ c.if-not-word_full.true)

pub loop-index-preserved : goal.loop-index-preserved
loop-index-preserved c =
    all_more _ _ _ c.loop-index.invariant (omega arith)
    (sym (c.word_full.ensures ∙ ap (inside ones) c.word_at.ensures) ∙ c.if-not-word_full.false)

pub returns : goal.returns
unfolding full_mask
returns c = all_end _ _ _ c.loop-index.invariant (omega arith)
