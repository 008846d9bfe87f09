-- `neighbour_lists::asking::settled` meets its contract.
use mathlib.Core.Path.{sym, ap, ◌∙◌}
use mathlib.Core.Bool.{not, true≢false}
use borrow.Author.Tests.{eq-eqb, ne_eqb, le-leb, lt-leb, ltb-true, ltb-false}
use Rattle.neighbour_lists.specs.Row.{settled_pair}
use Rattle.neighbour_lists.proofs.asking.settled.Goals.{then-near-later, else-near-later}
use Rattle.neighbour_lists.proofs.asking.settled.Goals as goal

pub returns-then-slot_rank-rank : goal.returns-then-slot_rank-rank
unfolding settled_pair
returns-then-slot_rank-rank c =
    elim c.if-near-later.branch [
      | then-near-later w ↦ rw (ne_eqb _ _ w.if-near-later.true, lt-leb _ _ (rw w.slot_rank.ensures at (ltb-true _ _ (sym w.value-is ∙ c.if-slot_rank-rank.true))))
      | else-near-later w ↦ absurd (true≢false (sym c.if-slot_rank-rank.true ∙ w.value-is ∙ ap not (eq-eqb _ _ w.if-near-later.false)))
    ]

pub returns-else-slot_rank-rank : goal.returns-else-slot_rank-rank
unfolding settled_pair
returns-else-slot_rank-rank c =
    elim c.if-near-later.branch [
      | then-near-later w ↦
          c.if-slot_rank-rank.false
          ∙ rw (ne_eqb _ _ w.if-near-later.true, le-leb _ _ (rw w.slot_rank.ensures at (ltb-false _ _ (sym w.value-is ∙ c.if-slot_rank-rank.false))))
      | else-near-later w ↦ c.if-slot_rank-rank.false ∙ rw (eq-eqb _ _ w.if-near-later.false)
    ]
