-- `script_operations::delete` meets its contract.
-- The plan is carried out and printed, and the answer is the planning call's at two words.
use mathlib.Core.Path.{◌∙◌}
use native.Mathlib.Omega.{arith}
use Rattle.records.specs.Widths.{known, check_width}
use Rattle.script_operations.proofs.OutcomesLaws.{delete_is, delete_told_lem, changed_is}
use Rattle.script_operations.proofs.delete.Goals as goal

pub carry_and_print-length-requires : goal.carry_and_print-length-requires
unfolding check_width known
carry_and_print-length-requires c =
    ((delete_is c.args.table.now c.args.id c.args.plan.now c.plan_delete-answer.new.plan _ c.requires c.plan_delete-answer.ensures.result_value c.plan_delete-answer.ensures.plan_after).0, omega (arith, c.plan_delete-answer.auto.plan, c.requires))

pub returns : goal.returns
unfolding check_width known
returns c =
    record { changed = changed_is (delete_is c.args.table.now c.args.id c.args.plan.now c.plan_delete-answer.new.plan _ c.requires c.plan_delete-answer.ensures.result_value c.plan_delete-answer.ensures.plan_after).1 c.carry_and_print-length.ensures; answer_value = c.of_plan.ensures ∙ delete_told_lem c.args.table.now c.args.id _ _ c.requires c.plan_delete-answer.ensures.result_value }
