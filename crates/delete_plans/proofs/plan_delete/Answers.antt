-- `delete_plans::plan_delete` meets its contract.
-- The check of the width decides first, and leaves the buffer as it was.
use mathlib.Core.Path.{refl, sym, ap, ◌∙◌}
use Rattle.records.specs.Verdict.{Pass, Fail}
use Rattle.records.proofs.Laws.{is_refusal}
use Rattle.records.proofs.WidthsLaws.{width_law, call_refused, call_answered}
use Rattle.buffers.specs.Buffers.{plan_told}
use Rattle.delete_plans.specs.Deletes.{delete_plan}
use Rattle.delete_plans.proofs.plan_delete.Goals as goal

pub returns-in_err-check_width : goal.returns-in_err-check_width
returns-in_err-check_width c =
    let a = c.args in
    let both = call_refused {x = Fail _ _} _ (delete_plan a.mode.width a.mode.uncounted a.table.now a.id a.plan.now) a.plan.now c.in_err-check_width.ensures refl in
    record { result_value = ap plan_told (is_refusal _ c.from_residual.ensures.1) ∙ both.0; plan_after = both.1 }

pub delete_at-requires : goal.delete_at-requires
delete_at-requires c = (width_law _).0 (sym c.in_ok-check_width.ensures)

pub returns : goal.returns
returns c =
    let both = call_answered {x = Pass} c.args.plan.now c.in_ok-check_width.ensures refl (c.delete_at.ensures.result_value, c.delete_at.ensures.plan_after) in
    record { result_value = both.0; plan_after = both.1 }
