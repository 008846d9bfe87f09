-- `steps::step::step_at` meets its contract.
-- What the checks answer tells whether the write is made, and that it may be.
use mathlib.Core.Path.{sym, ap, ◌∙◌}
use native.Mathlib.Omega.{arith}
use Rattle.std.specs.Prelude.{Ok}
use Rattle.records.proofs.Laws.{is_refusal}
use Rattle.records.specs.Editions.{lent_rule}
use Rattle.carrying.specs.Carrying.{step_told}
use Rattle.carrying.proofs.StepsLaws.{answer_tells}
use Rattle.steps.proofs.step.step_at.Goals as goal

pub bounds-plan-done : goal.bounds-plan-done
bounds-plan-done c =
    let a = c.args in
    let r = answer_tells a.width a.table.now a.plan.now (lent_rule a.width a.edition a.rule.now) a.done a.total (c.in_ok-next_step.was ∙ ap Ok c.in-Some.is) c.next_step.ensures in
    omega (arith, r.more, r.within)

pub make_write-requires : goal.make_write-requires
make_write-requires c =
    let a = c.args in
    let r = answer_tells a.width a.table.now a.plan.now (lent_rule a.width a.edition a.rule.now) a.done a.total (c.in_ok-next_step.was ∙ ap Ok c.in-Some.is) c.next_step.ensures in
    record { width = (c.requires.0, c.requires.1, r.fits); word_value = r.sound }

pub returns-in_err-next_step : goal.returns-in_err-next_step
returns-in_err-next_step c =
    let a = c.args in
    record { result_value = ap step_told (is_refusal _ c.from_residual.ensures.1) ∙ (sym (ap step_told c.in_err-next_step.was) ∙ c.next_step.ensures); table_after = answer_tells a.width a.table.now a.plan.now (lent_rule a.width a.edition a.rule.now) a.done a.total c.in_err-next_step.was c.next_step.ensures }

pub returns-in-None : goal.returns-in-None
returns-in-None c =
    let a = c.args in
    record { result_value = sym (ap step_told (c.in_ok-next_step.was ∙ ap Ok c.in-None.is)) ∙ c.next_step.ensures; table_after = answer_tells a.width a.table.now a.plan.now (lent_rule a.width a.edition a.rule.now) a.done a.total (c.in_ok-next_step.was ∙ ap Ok c.in-None.is) c.next_step.ensures }

pub returns-in-Some : goal.returns-in-Some
returns-in-Some c =
    let a = c.args in
    let r = answer_tells a.width a.table.now a.plan.now (lent_rule a.width a.edition a.rule.now) a.done a.total (c.in_ok-next_step.was ∙ ap Ok c.in-Some.is) c.next_step.ensures in
    record { result_value = sym (ap step_told (c.in_ok-next_step.was ∙ ap Ok c.in-Some.is)) ∙ c.next_step.ensures; table_after = c.make_write.ensures ∙ r.made }
