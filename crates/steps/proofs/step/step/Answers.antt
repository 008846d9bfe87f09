-- `steps::step::step` meets its contract.
-- Another width or another number of words is refused; else the call ends as the step does.
use mathlib.Core.Path.{refl, sym, ap, ◌∙◌}
use lib.ListN.{length}
use Rattle.records.proofs.Laws.{is_refusal}
use Rattle.records.specs.Verdict.{Pass, Fail}
use Rattle.records.proofs.WidthsLaws.{rule_law, call_refused, call_answered}
use Rattle.records.specs.Editions.{lent_rule}
use Rattle.carrying.specs.Carrying.{step_told, step_answer, step_table}
use Rattle.steps.proofs.step.step.Goals as goal

pub returns-in_err-check_rule : goal.returns-in_err-check_rule
returns-in_err-check_rule c =
    let a = c.args in
    let given = lent_rule a.width a.edition a.rule.now in
    let ends = call_refused {x = Fail _ _} (step_answer a.width a.table.now a.plan.now given a.done a.total) (step_table a.width a.table.now a.plan.now given a.done a.total) a.table.now
    c.in_err-check_rule.ensures refl in
    record { result_value = ap step_told (is_refusal _ c.from_residual.ensures.1) ∙ ends.0; table_after = ends.1 }

pub step_at-requires : goal.step_at-requires
step_at-requires c =
    let a = c.args in
    (rule_law a.width (length a.rule.now)).0 (sym c.in_ok-check_rule.ensures)

pub returns : goal.returns
returns c =
    let a = c.args in
    let step = c.step_at.ensures in
    let ends = call_answered {x = Pass} a.table.now c.in_ok-check_rule.ensures refl (step.result_value, step.table_after) in
    record { result_value = ends.0; table_after = ends.1 }
