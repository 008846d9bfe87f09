-- `marshalling::carry_listed` meets its contract.
-- What the step with a list tells is what crosses, and whether the list was worked out afresh goes to its cell.
use mathlib.Core.Path.{sym, ap, ◌∙◌}
use mathlib.Core.Bool.{Bool, cond}
use Rattle.std.specs.Prelude.{Ok}
use Rattle.records.proofs.Laws.{cause_not_zero}
use Rattle.listed_steps.specs.ListedSteps.{listed_step_told}
use Rattle.marshalling.specs.Cells.{flag_of}
use Rattle.marshalling.proofs.CellsLaws.{flag_byte}
use Rattle.marshalling.proofs.CarriedLaws.{listed_carried, listed_cell}
use Rattle.marshalling.proofs.carry_listed.Goals as goal

pub returns-in-Ok-Some : goal.returns-in-Ok-Some
returns-in-Ok-Some c =
    let a = c.args in
    let told = sym (ap listed_step_told (c.in-Ok-Some.is ∙ ap Ok c.in-Ok-Some.field-0-is)) ∙ c.step_listed.ensures.result_value in (
      listed_carried a.width (flag_of a.uncounted) a.edition a.table.now a.plan.now a.rule.now a.list.now a.done a.total told c.carry_answer.ensures,
      c.step_listed.ensures.table_after,
      c.step_listed.ensures.list_after,
      flag_byte c.in-Ok-Some.info.refreshed ∙ listed_cell a.width (flag_of a.uncounted) a.edition a.table.now a.plan.now a.rule.now a.list.now a.done a.total a.refreshed.now told,
    )

pub returns-in-Ok-None : goal.returns-in-Ok-None
returns-in-Ok-None c =
    let a = c.args in
    let told = sym (ap listed_step_told (c.in-Ok-None.is ∙ ap Ok c.in-Ok-None.field-0-is)) ∙ c.step_listed.ensures.result_value in (
      listed_carried a.width (flag_of a.uncounted) a.edition a.table.now a.plan.now a.rule.now a.list.now a.done a.total told c.carry_answer-in-Ok-None.ensures,
      c.step_listed.ensures.table_after,
      c.step_listed.ensures.list_after,
      listed_cell a.width (flag_of a.uncounted) a.edition a.table.now a.plan.now a.rule.now a.list.now a.done a.total a.refreshed.now told,
    )

pub returns-in-Err : goal.returns-in-Err
returns-in-Err c =
    let a = c.args in
    let told = sym (ap listed_step_told c.in-Err.is) ∙ c.step_listed.ensures.result_value in (
      listed_carried a.width (flag_of a.uncounted) a.edition a.table.now a.plan.now a.rule.now a.list.now a.done a.total told c.carry_answer-in-Err.ensures,
      c.step_listed.ensures.table_after,
      c.step_listed.ensures.list_after,
      sym (ap (λ (b : Bool). cond b a.refreshed.now a.refreshed.now) (cause_not_zero c.in-Err.refusal.cause)) ∙ listed_cell a.width (flag_of a.uncounted) a.edition a.table.now a.plan.now a.rule.now a.list.now a.done a.total a.refreshed.now told,
    )
