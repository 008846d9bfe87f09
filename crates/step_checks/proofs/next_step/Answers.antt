-- `step_checks::next_step` meets its contract.
-- Each return is one way in which a step ends.
use mathlib.Core.Path.{refl, sym, ap, ◌∙◌}
use native.Mathlib.Omega.{arith}
use lib.ListN.{length}
use Rattle.records.specs.Editions.{lent_rule}
use Rattle.records.proofs.Laws.{is_refusal}
use Rattle.records.specs.Verdict.{Pass, Fail}
use Rattle.carrying.specs.Carrying.{step_told}
use Rattle.carrying.proofs.StepsLaws.{step_declined, step_finished, step_unfit, step_wrote, progress_within}
use Rattle.step_checks.proofs.next_step.Goals as goal

pub returns-in_err-check_progress : goal.returns-in_err-check_progress
returns-in_err-check_progress c =
    let a = c.args in
    ap step_told (is_refusal _ c.from_residual.ensures.1) ∙ (step_declined a.width a.table.now a.plan.now (lent_rule a.width a.edition a.rule.now) a.done a.total {x = Fail _ _} c.in_err-check_progress.ensures refl).0

pub returns-then-done-total : goal.returns-then-done-total
returns-then-done-total c =
    let a = c.args in
    (step_finished a.width a.table.now a.plan.now (lent_rule a.width a.edition a.rule.now) a.done a.total {x = Pass} c.in_ok-check_progress.ensures refl c.if-done-total.true).0

pub bounds-plan-done : goal.bounds-plan-done
bounds-plan-done c =
    let a = c.args in
    let h = progress_within a.width a.table.now (length a.plan.now) a.done a.total (sym c.in_ok-check_progress.ensures) in
    omega (arith, h.0, h.1, c.if-done-total.false)

pub returns-in_err-check_write : goal.returns-in_err-check_write
returns-in_err-check_write c =
    let a = c.args in
    ap step_told (is_refusal _ c.from_residual-in_err-check_write.ensures.1) ∙ (step_unfit a.width a.table.now a.plan.now (lent_rule a.width a.edition a.rule.now) a.done a.total {x = Pass} c.in_ok-check_progress.ensures refl c.if-done-total.false {y = Fail _ _} c.in_err-check_write.ensures refl).0

pub overflow_add-result : goal.overflow_add-result
overflow_add-result c =
    let a = c.args in
    let h = progress_within a.width a.table.now (length a.plan.now) a.done a.total (sym c.in_ok-check_progress.ensures) in
    omega (arith, h.0, c.if-done-total.false, c.ranges.total)

pub returns : goal.returns
returns c =
    let a = c.args in
    (step_wrote a.width a.table.now a.plan.now (lent_rule a.width a.edition a.rule.now) a.done a.total {x = Pass} c.in_ok-check_progress.ensures refl c.if-done-total.false {y = Pass} c.in_ok-check_write.ensures refl).0
