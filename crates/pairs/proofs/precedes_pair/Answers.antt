-- `pairs::precedes_pair` meets its contract.
-- Ranks first; then the patterns, and then whether the rules are compared.
use mathlib.Core.Path.{◌≡◌, ◌∙◌}
use mathlib.Core.Bool.{◌&&◌, and-true, and-false}
use lib.Dec.{ltb}
use borrow.Author.Tests.{lt-ltb, le-ltb}
use Rattle.search.specs.SearchLaws.{and_more, and_stop}
use Rattle.records.specs.Record.{slot_words, rank}
use Rattle.records.specs.Order.{overlapping, precedes}
use Rattle.pairs.proofs.precedes_pair.Goals.{Joined-slot_rank, then-slot_rank, else-slot_rank}
use Rattle.pairs.proofs.precedes_pair.Goals as goal

-- what the first two tests come to
overlap_ranked : (c : Joined-slot_rank)
    → c.if-slot_rank.value
    ≡ overlapping c.args.mode.width (slot_words c.args.mode.width c.args.table.now c.args.slot) (slot_words c.args.mode.width c.args.others.now c.args.other)
    && ltb (rank c.args.mode.width (slot_words c.args.mode.width c.args.others.now c.args.other)) (rank c.args.mode.width (slot_words c.args.mode.width c.args.table.now c.args.slot))
overlap_ranked c = elim c.if-slot_rank.branch [
  | then-slot_rank w ↦ rw (← c.slot_rank-2.ensures, ← c.slot_rank.ensures, lt-ltb _ _ w.if-slot_rank.true, and-true) (w.value-is ∙ w.slots_overlap_by.ensures)
  | else-slot_rank w ↦ (let no = le-ltb _ _ w.if-slot_rank.false in rw (← c.slot_rank-2.ensures, ← c.slot_rank.ensures, no, and-false) (w.value-is ∙ no))
]

pub returns-then-slots_overlap_by : goal.returns-then-slots_overlap_by
unfolding precedes
returns-then-slots_overlap_by c = and_more (overlap_ranked (goal.at.returns-then-slots_overlap_by c).Joined-slot_rank) c.if-slots_overlap_by.true c.compared_rules.ensures

pub returns-else-slots_overlap_by : goal.returns-else-slots_overlap_by
unfolding precedes
returns-else-slots_overlap_by c =
    let no = c.if-slots_overlap_by.false in
    no ∙ and_stop _ (overlap_ranked (goal.at.returns-else-slots_overlap_by c).Joined-slot_rank) no
