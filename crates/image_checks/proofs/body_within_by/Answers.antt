-- `image_checks::body_within_by` meets its contract.
-- Each word below the loop's lies within its mask.
use mathlib.Core.Path.{sym, ap₂, ◌∙◌}
use native.Mathlib.Omega.{arith}
use Rattle.search.specs.SearchLaws.{all_start, all_more, all_end, all_out}
use Rattle.ternary.specs.Word.{inside}
use Rattle.ternary.specs.Pattern.{within}
use Rattle.image_checks.proofs.body_within_by.Goals as goal

pub loop-index-init : goal.loop-index-init
loop-index-init c = all_start _ _

pub returns-then-not-word_within : goal.returns-then-not-word_within
unfolding within
returns-then-not-word_within c =
    all_out _ _ _ (omega arith)
    (sym (c.word_within.ensures ∙ ap₂ inside c.word_at-value.ensures c.word_at-mask.ensures) ∙ c.if-not-word_within.true)

pub loop-index-preserved : goal.loop-index-preserved
loop-index-preserved c =
    all_more _ _ _ c.loop-index.invariant (omega arith)
    (sym (c.word_within.ensures ∙ ap₂ inside c.word_at-value.ensures c.word_at-mask.ensures) ∙ c.if-not-word_within.false)

pub returns : goal.returns
unfolding within
returns c = all_end _ _ _ c.loop-index.invariant (omega arith)
