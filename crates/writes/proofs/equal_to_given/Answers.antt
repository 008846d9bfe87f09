-- `writes::equal_to_given` meets its contract.
-- Ranks first; then value and mask, and then whether the slot is occupied.
use mathlib.Core.Path.{sym, ap, ◌∙◌}
use mathlib.Core.Bool.{not, and-false, true≢false}
use borrow.Author.Tests.{eq-eqb, ne_eqb}
use Rattle.records.specs.Record.{slot_words}
use Rattle.records.proofs.WidthsLaws.{lent_slot}
use Rattle.carrying.proofs.StepsLaws.{given_equal}
use Rattle.writes.proofs.equal_to_given.Goals.{then-slot_rank-given_rank, else-slot_rank-given_rank}
use Rattle.writes.proofs.equal_to_given.Goals as goal

pub same_pattern-requires : goal.same_pattern-requires
same_pattern-requires c =
    (c.requires.0, c.requires.1, lent_slot c.args.width c.args.rule.now c.requires.2)

pub returns-then-same_pattern : goal.returns-then-same_pattern
returns-then-same_pattern c =
    let a = c.args in
    elim c.if-slot_rank-given_rank.branch [
      | then-slot_rank-given_rank w ↦
          rw (given_equal a.width a.edition a.rule.now (slot_words a.width a.table.now a.to) c.requires.2 c.requires.3, ← w.same_pattern.ensures, sym w.value-is ∙ c.if-same_pattern.true, ← c.given_rank.ensures, ← c.slot_rank.ensures, eq-eqb _ _ w.if-slot_rank-given_rank.true)
          (ap not c.slot_empty.ensures)
      | else-slot_rank-given_rank w ↦ absurd (true≢false (sym c.if-same_pattern.true ∙ w.value-is ∙ ne_eqb _ _ w.if-slot_rank-given_rank.false))
    ]

pub returns-else-same_pattern : goal.returns-else-same_pattern
returns-else-same_pattern c =
    let a = c.args in
    elim c.if-slot_rank-given_rank.branch [
      | then-slot_rank-given_rank w ↦
          c.if-same_pattern.false
          ∙ rw (given_equal a.width a.edition a.rule.now (slot_words a.width a.table.now a.to) c.requires.2 c.requires.3, ← w.same_pattern.ensures, sym w.value-is ∙ c.if-same_pattern.false)
      | else-slot_rank-given_rank w ↦
          c.if-same_pattern.false
          ∙ rw (given_equal a.width a.edition a.rule.now (slot_words a.width a.table.now a.to) c.requires.2 c.requires.3, ← c.given_rank.ensures, ← c.slot_rank.ensures, ne_eqb _ _ w.if-slot_rank-given_rank.false, and-false)
    ]
