-- `listed_steps::step_listed` meets its contract.
-- Two checks come before the step: of the width and the rule's words, and of the list's numbers.
use mathlib.Core.Path.{refl, sym, ap, ◌∙◌}
use lib.ListN.{length}
use Rattle.records.proofs.Laws.{is_refusal}
use Rattle.records.specs.Verdict.{Pass, Fail}
use Rattle.listed_steps.specs.ListedSteps.{listed_step_told}
use Rattle.records.proofs.WidthsLaws.{rule_law, words_law}
use Rattle.neighbour_lists.specs.Lists.{list_numbers}
use Rattle.listed_steps.specs.ListedStepsLaws.{rule_refused, list_refused, listed_stepped}
use Rattle.listed_steps.proofs.step_listed.Goals as goal

pub returns-in_err-check_rule : goal.returns-in_err-check_rule
returns-in_err-check_rule c =
    let a = c.args in
    let r = rule_refused a.mode.width a.mode.uncounted a.edition a.table.now a.plan.now a.rule.now a.list.now a.done a.total {x = Fail _ _} c.in_err-check_rule.ensures refl in
    record { result_value = ap listed_step_told (is_refusal _ c.from_residual.ensures.1) ∙ r.0; table_after = r.1; list_after = r.2 }

pub check_list-requires : goal.check_list-requires
check_list-requires c =
    let a = c.args in
    ((rule_law a.mode.width (length a.rule.now)).0 (sym c.in_ok-check_rule.ensures)).0

pub returns-in_err-check_list : goal.returns-in_err-check_list
returns-in_err-check_list c =
    let a = c.args in
    let r = list_refused a.mode.width a.mode.uncounted a.edition a.table.now a.plan.now a.rule.now a.list.now a.done a.total {x = Fail _ _} c.in_err-check_list.ensures refl in
    record { result_value = ap listed_step_told (is_refusal _ c.from_residual-in_err-check_list.ensures.1) ∙ r.0; table_after = r.1; list_after = r.2 }

pub step_listed_at-requires : goal.step_listed_at-requires
step_listed_at-requires c =
    let a = c.args in
    let known = (rule_law a.mode.width (length a.rule.now)).0 (sym c.in_ok-check_rule.ensures) in
    (known.0, known.1, (words_law (length a.list.now) (list_numbers a.mode.width a.table.now)).0 (sym c.in_ok-check_list.ensures))

pub returns : goal.returns
returns c =
    let a = c.args in
    let r = listed_stepped a.mode.width a.mode.uncounted a.edition a.table.now a.plan.now a.rule.now a.list.now a.done a.total {x = Pass} {y = Pass} c.in_ok-check_rule.ensures refl c.in_ok-check_list.ensures refl c.step_listed_at.ensures.result_value c.step_listed_at.ensures.table_after c.step_listed_at.ensures.list_after in
    record { result_value = r.0; table_after = r.1; list_after = r.2 }
