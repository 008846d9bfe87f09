-- `slots::slot_given` meets its contract.
-- The id first, then the priority; the value where both are as they must be.
use mathlib.Core.Path.{◌≡◌, ap, ◌∙◌}
use mathlib.Core.Bool.{not, ◌&&◌}
use Prim.Native.Nat.{ℕ}
use lib.Dec.{eqb, leb}
use borrow.Author.Tests.{eq-eqb, ne_eqb}
use Rattle.search.specs.SearchLaws.{and_more, and_stop}
use Rattle.records.specs.Record.{slot_words, rank, ident, sound_parts}
use Rattle.slots.proofs.slot_given.Goals.{Joined-slot_id-ne0, then-slot_id-ne0, else-slot_id-ne0}
use Rattle.slots.proofs.slot_given.Goals as goal

-- what the first two tests come to
named_bounded : (c : Joined-slot_id-ne0)
    → c.if-slot_id-ne0.value ≡ not (eqb (ident c.args.width (slot_words c.args.width c.args.table.now c.args.slot)) 0)
    && leb (rank c.args.width (slot_words c.args.width c.args.table.now c.args.slot)) 65535
named_bounded c =
    let named = ap (λ (id : ℕ). not (eqb id 0)) c.slot_id.ensures in
    elim c.if-slot_id-ne0.branch [
      | then-slot_id-ne0 w ↦ w.value-is ∙ and_more named (ap not (ne_eqb _ 0 w.if-slot_id-ne0.true)) (ap (λ (r : ℕ). leb r 65535) w.slot_rank.ensures)
      | else-slot_id-ne0 w ↦ (let unnamed = ap not (eq-eqb _ 0 w.if-slot_id-ne0.false) in w.value-is ∙ (unnamed ∙ and_stop _ named unnamed))
    ]

pub returns-then-slot_rank-le-MOST_PRIORITY : goal.returns-then-slot_rank-le-MOST_PRIORITY
unfolding sound_parts
returns-then-slot_rank-le-MOST_PRIORITY c =
    and_more (named_bounded (goal.at.returns-then-slot_rank-le-MOST_PRIORITY c).Joined-slot_id-ne0) c.if-slot_rank-le-MOST_PRIORITY.true c.slot_within.ensures

pub returns-else-slot_rank-le-MOST_PRIORITY : goal.returns-else-slot_rank-le-MOST_PRIORITY
unfolding sound_parts
returns-else-slot_rank-le-MOST_PRIORITY c =
    let no = c.if-slot_rank-le-MOST_PRIORITY.false in
    no ∙ and_stop _ (named_bounded (goal.at.returns-else-slot_rank-le-MOST_PRIORITY c).Joined-slot_id-ne0) no
