-- `writes::make_write` meets its contract.
-- The slots of a write that fits exist, and the record stored is the one that the write names.
use mathlib.Core.Path.{ap, ◌∙◌}
use Rattle.plan_words.specs.PlanWordsLaws.{write_taken}
use Rattle.records.specs.Editions.{lent_rule, ranked}
use Rattle.carrying.proofs.StepsLaws.{write_made, write_below}
use Rattle.carrying.specs.Carrying.{put_checks}
use Rattle.writes.proofs.make_write.Goals as goal

pub copy_slot-requires : goal.copy_slot-requires
copy_slot-requires c =
    let below = write_below c.args.width c.args.table.now c.args.word (write_taken c.write_of.ensures c.in-Copy.is) (ranked c.args.width (lent_rule c.args.width c.args.edition c.args.rule.now)) c.requires.width.2 in
    (c.requires.width.0, below.0, below.1)

pub put_rule-requires : goal.put_rule-requires
put_rule-requires c =
    let below = write_below c.args.width c.args.table.now c.args.word (write_taken c.write_of.ensures c.in-PutIn.is) (ranked c.args.width (lent_rule c.args.width c.args.edition c.args.rule.now)) c.requires.width.2 in
    record { width = (c.requires.width.0, below, c.requires.width.1); rule_value = ap (put_checks c.args.width (lent_rule c.args.width c.args.edition c.args.rule.now)) (write_taken c.write_of.ensures c.in-PutIn.is) ∙ c.requires.word_value }

pub clear_slot-requires : goal.clear_slot-requires
clear_slot-requires c =
    let below = write_below c.args.width c.args.table.now c.args.word (write_taken c.write_of.ensures c.in-Clear.is) (ranked c.args.width (lent_rule c.args.width c.args.edition c.args.rule.now)) c.requires.width.2 in
    (c.requires.width.0, below)

pub returns-in-Copy : goal.returns-in-Copy
returns-in-Copy c =
    let a = c.args in
    c.copy_slot.ensures
    ∙ write_made a.width a.table.now a.word (write_taken c.write_of.ensures c.in-Copy.is) (ranked a.width (lent_rule a.width a.edition a.rule.now))

pub returns-in-PutIn : goal.returns-in-PutIn
returns-in-PutIn c =
    let a = c.args in
    c.put_rule.ensures
    ∙ write_made a.width a.table.now a.word (write_taken c.write_of.ensures c.in-PutIn.is) (ranked a.width (lent_rule a.width a.edition a.rule.now))

pub returns-in-Clear : goal.returns-in-Clear
returns-in-Clear c =
    let a = c.args in
    c.clear_slot.ensures
    ∙ write_made a.width a.table.now a.word (write_taken c.write_of.ensures c.in-Clear.is) (ranked a.width (lent_rule a.width a.edition a.rule.now))
