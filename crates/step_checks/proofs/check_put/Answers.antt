-- `step_checks::check_put` meets its contract.
-- Only a put-in looks at the rule and its edition.
use mathlib.Core.Path.{ap, ◌∙◌}
use Rattle.plan_words.specs.PlanWordsLaws.{write_taken}
use Rattle.records.specs.Editions.{lent_rule}
use Rattle.carrying.specs.Carrying.{put_checks}
use Rattle.step_checks.proofs.check_put.Goals as goal

pub returns-in-Copy : goal.returns-in-Copy
returns-in-Copy c =
    let a = c.args in
    ap (put_checks a.width (lent_rule a.width a.edition a.rule.now)) (write_taken c.write_of.ensures c.in-Copy.is)

pub returns-in-PutIn : goal.returns-in-PutIn
returns-in-PutIn c =
    let a = c.args in
    c.check_given.ensures
    ∙ ap (put_checks a.width (lent_rule a.width a.edition a.rule.now)) (write_taken c.write_of.ensures c.in-PutIn.is)

pub returns-in-Clear : goal.returns-in-Clear
returns-in-Clear c =
    let a = c.args in
    ap (put_checks a.width (lent_rule a.width a.edition a.rule.now)) (write_taken c.write_of.ensures c.in-Clear.is)
