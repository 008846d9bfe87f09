-- `pairs::obscures_by` meets its contract.
-- Ranks first, then the masks; then the comparison, the slot first and the other second.
use mathlib.Core.Path.{sym, ap, ◌∙◌}
use mathlib.Core.Bool.{and-false}
use borrow.Author.Tests.{lt-ltb, le-ltb, both_ways}
use Rattle.ternary.specs.Comparison.{first_covers}
use Rattle.ternary.proofs.ComparisonLaws.{covers_outside, covers_compared}
use Rattle.records.specs.Record.{slot_words, value, mask}
use Rattle.records.specs.Order.{obscures}
use Rattle.pairs.proofs.obscures_by.Goals.{then-slot_rank, else-slot_rank}
use Rattle.pairs.proofs.obscures_by.Goals as goal

pub returns-then-masks_within : goal.returns-then-masks_within
unfolding obscures
returns-then-masks_within c = elim c.if-slot_rank.branch [
  | then-slot_rank w ↦
      rw (← c.slot_rank-2.ensures, ← c.slot_rank.ensures, lt-ltb _ _ w.if-slot_rank.true)
      (c.first_covers.ensures ∙ (ap first_covers c.compare_slots.ensures ∙ sym (covers_compared _ _ _ _ _)))
  | else-slot_rank w ↦ absurd (both_ways _ (w.value-is ∙ le-ltb _ _ w.if-slot_rank.false) c.if-masks_within.true)
]

pub returns-else-masks_within : goal.returns-else-masks_within
unfolding obscures
returns-else-masks_within c =
    let a = c.args in
    let x = slot_words a.width a.table.now a.slot in
    let y = slot_words a.width a.others.now a.other in
    let no = c.if-masks_within.false in
    elim c.if-slot_rank.branch [
      | then-slot_rank w ↦
          (let outside = covers_outside a.width (value x) (mask a.width x) (value y) (mask a.width y) (sym w.masks_within.ensures ∙ (sym w.value-is ∙ no)) in
          rw (outside, and-false) no)
      | else-slot_rank w ↦ rw (← c.slot_rank-2.ensures, ← c.slot_rank.ensures, le-ltb _ _ w.if-slot_rank.false) no
    ]
