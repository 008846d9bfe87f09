-- `pairs::equal_rules` meets its contract.
-- Ranks first; then value and mask, and then both slots occupied.
use mathlib.Core.Path.{◌≡◌, ◌∙◌}
use mathlib.Core.Bool.{◌&&◌, and-true, and-false}
use lib.Dec.{eqb}
use borrow.Author.Tests.{eq-eqb, ne_eqb}
use Rattle.search.specs.SearchLaws.{and_more, and_stop}
use Rattle.records.specs.Record.{slot_words, rank}
use Rattle.records.specs.Order.{same_pattern, equal_rule}
use Rattle.pairs.proofs.equal_rules.Goals.{Joined-slot_rank, then-slot_rank, else-slot_rank}
use Rattle.pairs.proofs.equal_rules.Goals as goal

-- what the first two tests come to
alike_ranked : (c : Joined-slot_rank)
    → c.if-slot_rank.value
    ≡ same_pattern c.args.width (slot_words c.args.width c.args.table.now c.args.slot) (slot_words c.args.width c.args.others.now c.args.other)
    && eqb (rank c.args.width (slot_words c.args.width c.args.table.now c.args.slot)) (rank c.args.width (slot_words c.args.width c.args.others.now c.args.other))
alike_ranked c = elim c.if-slot_rank.branch [
  | then-slot_rank w ↦ rw (← c.slot_rank-2.ensures, ← c.slot_rank.ensures, eq-eqb _ _ w.if-slot_rank.true, and-true) (w.value-is ∙ w.same_pattern.ensures)
  | else-slot_rank w ↦ (let no = ne_eqb _ _ w.if-slot_rank.false in rw (← c.slot_rank-2.ensures, ← c.slot_rank.ensures, no, and-false) (w.value-is ∙ no))
]

pub returns-then-same_pattern : goal.returns-then-same_pattern
unfolding equal_rule
returns-then-same_pattern c = and_more (alike_ranked (goal.at.returns-then-same_pattern c).Joined-slot_rank) c.if-same_pattern.true c.both_occupied.ensures

pub returns-else-same_pattern : goal.returns-else-same_pattern
unfolding equal_rule
returns-else-same_pattern c =
    let no = c.if-same_pattern.false in
    no ∙ and_stop _ (alike_ranked (goal.at.returns-else-same_pattern c).Joined-slot_rank) no
