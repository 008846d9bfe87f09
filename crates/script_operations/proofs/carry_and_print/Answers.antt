-- `script_operations::carry_and_print` meets its contract.
-- Both cases of the answer: the plan carried out and printed, or the refusal.
use mathlib.Core.Path.{refl, sym, ap, subst}
use native.Mathlib.Omega.{arith}
use lib.ListN.{length, length-take}
use lib.Seq.{length-take-le}
use Rattle.records.specs.Checks.{Told}
use Rattle.buffers.specs.Buffers.{plan_told}
use Rattle.script_operations.proofs.OutcomesLaws.{changed_planned, changed_refused}
use Rattle.script_operations.specs.Outcomes.{WithinRoom}
use Rattle.script_operations.proofs.carry_and_print.Goals as goal

pub slice_bounds-print_plan-end : goal.slice_bounds-print_plan-end
slice_bounds-print_plan-end c =
    sym (length-take-le _ c.args.plan.now (subst (λ (x : Told). WithinRoom x (length c.args.plan.now)) (ap plan_told c.in-Ok.is) c.requires.0 refl))

pub print_plan-requires : goal.print_plan-requires
print_plan-requires c =
    omega (arith, length-take c.in-Ok.info.count c.args.plan.now, c.requires.1)

pub returns-in-Ok : goal.returns-in-Ok
returns-in-Ok c =
    let a = c.args in
    changed_planned a.table.now a.plan.now a.rule c.in-Ok.info.count (ap plan_told c.in-Ok.is) c.carry_whole.ensures.table_after c.print_plan.ensures

pub returns-in-Err : goal.returns-in-Err
returns-in-Err c =
    let a = c.args in
    changed_refused a.table.now a.plan.now a.rule _ _ (ap plan_told c.in-Err.is) c.refuse.ensures
