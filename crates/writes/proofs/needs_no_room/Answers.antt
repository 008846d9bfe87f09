-- `writes::needs_no_room` meets its contract.
use mathlib.Core.Path.{ap, ◌∙◌}
use Rattle.plan_words.specs.PlanWordsLaws.{write_taken}
use Rattle.records.specs.Editions.{lent_rule, ranked}
use Rattle.carrying.specs.Carrying.{put_checks, needs_no_room}
use Rattle.writes.proofs.needs_no_room.Goals as goal

pub over_equal-requires : goal.over_equal-requires
over_equal-requires c =
    let taken = write_taken c.write_of.ensures c.in-PutIn.is in
    (c.requires.0, c.requires.1, ap (put_checks c.args.width (lent_rule c.args.width c.args.edition c.args.rule.now)) taken ∙ c.requires.2)

pub returns-in-Copy : goal.returns-in-Copy
returns-in-Copy c =
    let a = c.args in
    let rule = ranked a.width (lent_rule a.width a.edition a.rule.now) in
    ap (needs_no_room a.width a.table.now rule) (write_taken c.write_of.ensures c.in-Copy.is)

pub returns-in-PutIn : goal.returns-in-PutIn
returns-in-PutIn c =
    let a = c.args in
    let rule = ranked a.width (lent_rule a.width a.edition a.rule.now) in
    c.over_equal.ensures ∙ ap (needs_no_room a.width a.table.now rule) (write_taken c.write_of.ensures c.in-PutIn.is)

pub returns-in-Clear : goal.returns-in-Clear
returns-in-Clear c =
    let a = c.args in
    let rule = ranked a.width (lent_rule a.width a.edition a.rule.now) in
    ap (needs_no_room a.width a.table.now rule) (write_taken c.write_of.ensures c.in-Clear.is)
