-- `insert_plans::plan_insert` meets its contract.
-- The check of the width and of the rule's words decides first, and leaves the buffer as it was; demand 3 is of calls that pass it.
use mathlib.Core.Path.{refl, sym, ap, ◌∙◌}
use mathlib.Core.Bool.{false≢true}
use Rattle.records.specs.Verdict.{Pass, Fail}
use Rattle.records.proofs.Laws.{is_refusal}
use lib.ListN.{length}
use Rattle.records.specs.Record.{word}
use Rattle.records.specs.Checks.{Told, passes}
use Rattle.records.proofs.RulesLaws.{rule_action}
use Rattle.records.proofs.WidthsLaws.{rule_law, call_refused, call_answered}
use Rattle.records.specs.Editions.{lent_rule}
use Rattle.buffers.specs.Buffers.{insert_answer_told, with_cover, without_cover}
use Rattle.buffers.proofs.BuffersLaws.{cover_refused}
use Rattle.insert_plans.specs.Inserts.{insert_plan, insert_cover}
use Rattle.insert_plans.proofs.InsertsLaws.{reply_dropped}
use Rattle.insert_plans.proofs.Demand3Laws.{demand_3_call}
use Rattle.insert_plans.proofs.plan_insert.Goals as goal

pub returns-in_err-check_rule : goal.returns-in_err-check_rule
returns-in_err-check_rule c =
    let a = c.args in
    let w = a.mode.width in
    let u = a.mode.uncounted in
    let plan = a.plan.now in
    let fails = c.in_err-check_rule.ensures in
    let refused = call_refused {x = Fail _ _} _ (insert_plan w u a.table.now (lent_rule w a.edition a.rule.now) plan) plan fails refl in record {
      result_value = ap insert_answer_told (is_refusal _ c.from_residual.ensures.1) ∙ cover_refused _ _ (insert_cover w a.table.now (lent_rule w a.edition a.rule.now)) refused.0;
      plan_after = refused.1;
      shortest = λ p. absurd (false≢true (ap passes (fails ∙ (rule_law _ _).1 (p.width, p.words))));
    }

pub insert_at-requires : goal.insert_at-requires
insert_at-requires c = (rule_law _ _).0 (sym c.in_ok-check_rule.ensures)

pub returns : goal.returns
returns c =
    let a = c.args in
    let w = a.mode.width in
    let u = a.mode.uncounted in
    let given = lent_rule w a.edition a.rule.now in
    let plan = a.plan.now in
    let answered = call_answered {x = Pass} plan c.in_ok-check_rule.ensures refl (refl, c.insert_at.ensures.plan_after) in
    let told = c.insert_at.ensures.result_value ∙ ap (λ (x : Told). with_cover x (insert_cover w a.table.now given)) answered.0 in
    let dropped = ap without_cover c.insert_at.ensures.result_value ∙ reply_dropped w u a.table.now given (length plan) in
    record { result_value = told; plan_after = answered.1; shortest = λ p. demand_3_call w u a.table.now given plan _ _ (rule_action w (word a.rule.now)) dropped c.insert_at.ensures.plan_after p.given }
