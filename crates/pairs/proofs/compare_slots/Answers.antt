-- `pairs::compare_slots` meets its contract.
-- The patterns overlap in each word below the loop's, and the flags tell of those words whether the one mask lies within the other.
use mathlib.Core.Path.{◌≡◌, sym, ap, ap₂, ◌∙◌}
use mathlib.Core.Bool.{◌&&◌}
use native.Mathlib.Omega.{arith}
use borrow.Author.Tests.{not-true, not-false}
use Rattle.search.specs.Search.{all}
use Rattle.search.specs.SearchLaws.{all_start, all_more, all_end, all_out, all_next}
use Rattle.ternary.specs.Pattern.{overlaps}
use Rattle.ternary.specs.Comparison.{masks_within, masks_compared}
use Rattle.ternary.proofs.ComparisonLaws.{comparison_apart, comparison_masks}
use Rattle.pairs.proofs.compare_slots.Goals as goal

pub returns-then-not-word_overlaps : goal.returns-then-not-word_overlaps
unfolding overlaps
returns-then-not-word_overlaps c = comparison_apart _ _ _ _ _ (sym (all_out _ _ _ (omega arith) (sym c.word_overlaps.ensures ∙ not-true _ c.if-not-word_overlaps.true-raw)))

pub loop-index-init : goal.loop-index-init
unfolding all
loop-index-init c =
    let overlap = sym c.word_overlaps.ensures ∙ not-false _ c.if-not-word_overlaps.false-raw in
    (all_more _ _ _ (all_start _ _) (omega arith) overlap, c.mask_within-first.ensures, c.mask_within-second.ensures)

pub returns-then-not-word_overlaps-2 : goal.returns-then-not-word_overlaps-2
unfolding overlaps
returns-then-not-word_overlaps-2 c = comparison_apart _ _ _ _ _ (sym (all_out _ _ _ (omega arith) (sym c.word_overlaps-in-loop-index.ensures ∙ not-true _ c.if-not-word_overlaps-2.true-raw)))

pub loop-index-preserved : goal.loop-index-preserved
loop-index-preserved c =
    let i = c.loop-index.invariant in
    let overlap = sym c.word_overlaps-in-loop-index.ensures ∙ not-false _ c.if-not-word_overlaps-2.false-raw in (
      all_more _ _ _ i.0 (omega arith) overlap,
      ap₂ ◌&&◌ i.1 c.mask_within-first-in-loop-index.ensures ∙ sym (all_next _ _),
      ap₂ ◌&&◌ i.2 c.mask_within-second-in-loop-index.ensures ∙ sym (all_next _ _),
    )

pub returns : goal.returns
unfolding overlaps masks_within
returns c =
    let loop = c.loop-index in
    let over : loop.index ≡ c.args.width = omega (arith, loop.invariant.0.0) in
    c.compare_masks.ensures
    ∙ (ap₂ masks_compared (loop.invariant.1 ∙ ap (all _) over) (loop.invariant.2 ∙ ap (all _) over)
    ∙ comparison_masks _ _ _ _ _ (sym (all_end _ _ _ loop.invariant.0 (omega arith))))
