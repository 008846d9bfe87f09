-- `steps::whole::advance` meets its contract.
-- Each case of the step's answer tells the writes done.
use mathlib.Core.Path.{sym, ap, ◌∙◌}
use Rattle.std.specs.Prelude.{Ok}
use Rattle.records.specs.Editions.{under13}
use Rattle.carrying.proofs.StepsLaws.{done_refused, answer_done}
use Rattle.steps.proofs.whole.advance.Goals as goal

pub returns-in-Ok-Some-clause-value : goal.returns-in-Ok-Some-clause-value
returns-in-Ok-Some-clause-value c =
    let a = c.args in
    answer_done 2 a.table.now a.plan.now (under13 a.rule) a.done a.total (c.in-Ok-Some.is ∙ ap Ok c.in-Ok-Some.field-0-is) c.step_rule.ensures.result_value

pub returns-in-Ok-None-clause-value : goal.returns-in-Ok-None-clause-value
returns-in-Ok-None-clause-value c =
    let a = c.args in
    answer_done 2 a.table.now a.plan.now (under13 a.rule) a.done a.total (c.in-Ok-None.is ∙ ap Ok c.in-Ok-None.field-0-is) c.step_rule.ensures.result_value

pub returns-in-Err-clause-value : goal.returns-in-Err-clause-value
returns-in-Err-clause-value c =
    let a = c.args in
    sym (done_refused c.in-Err.field-0.cause c.in-Err.field-0.spot a.done)
    ∙ answer_done 2 a.table.now a.plan.now (under13 a.rule) a.done a.total c.in-Err.is c.step_rule.ensures.result_value
