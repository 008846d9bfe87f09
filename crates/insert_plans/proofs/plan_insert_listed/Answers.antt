-- `insert_plans::plan_insert_listed` meets its contract.
-- The checks of the rule's words and of the list's numbers decide first, and leave buffer and list as they were; demand 3 is of calls that pass them.
use mathlib.Core.Path.{refl, sym, ap, ◌∙◌}
use mathlib.Core.Bool.{false≢true}
use Rattle.records.specs.Verdict.{Pass, Fail}
use Rattle.records.proofs.Laws.{is_refusal}
use lib.ListN.{length}
use Rattle.records.specs.Record.{word}
use Rattle.records.specs.Checks.{passes}
use Rattle.records.proofs.RulesLaws.{rule_action}
use Rattle.records.proofs.WidthsLaws.{rule_law, words_law}
use Rattle.records.specs.Editions.{lent_rule}
use Rattle.buffers.specs.Buffers.{listed_answer_told, without_cover}
use Rattle.buffers.proofs.BuffersLaws.{refreshed_dropped}
use Rattle.neighbour_lists.specs.Lists.{stale_list}
use Rattle.insert_plans.specs.Inserts.{insert_answer, insert_cover}
use Rattle.insert_plans.proofs.InsertsLaws.{reply_dropped}
use Rattle.insert_plans.proofs.ListedInsertsLaws.{rule_refused, list_refused, listed_answered}
use Rattle.insert_plans.proofs.Demand3Laws.{demand_3_call}
use Rattle.insert_plans.proofs.plan_insert_listed.Goals as goal

pub returns-in_err-check_rule : goal.returns-in_err-check_rule
returns-in_err-check_rule c =
    let a = c.args in
    let fails = c.in_err-check_rule.ensures in
    let r = rule_refused a.mode.width a.mode.uncounted a.edition a.table.now a.rule.now a.list.now a.plan.now {x = Fail _ _} fails refl in
    record { result_value = ap listed_answer_told (is_refusal _ c.from_residual.ensures.1) ∙ r.0; plan_after = r.1; list_after = r.2; shortest = λ size p. absurd (false≢true (ap passes (fails ∙ (rule_law _ _).1 (p.width, p.words)))) }

pub check_list-requires : goal.check_list-requires
check_list-requires c = ((rule_law _ _).0 (sym c.in_ok-check_rule.ensures)).0

pub returns-in_err-check_list : goal.returns-in_err-check_list
returns-in_err-check_list c =
    let a = c.args in
    let fails = c.in_err-check_list.ensures in
    let r = list_refused a.mode.width a.mode.uncounted a.edition a.table.now a.rule.now a.list.now a.plan.now {x = Fail _ _} fails refl in
    record { result_value = ap listed_answer_told (is_refusal _ c.from_residual-in_err-check_list.ensures.1) ∙ r.0; plan_after = r.1; list_after = r.2; shortest = λ size p. absurd (false≢true (ap passes (fails ∙ (words_law _ _).1 size))) }

pub insert_listed_at-requires : goal.insert_listed_at-requires
insert_listed_at-requires c =
    let known = (rule_law _ _).0 (sym c.in_ok-check_rule.ensures) in
    (known.0, known.1, (words_law _ _).0 (sym c.in_ok-check_list.ensures))

pub returns : goal.returns
returns c =
    let a = c.args in
    let w = a.mode.width in
    let u = a.mode.uncounted in
    let t = a.table.now in
    let rule = a.rule.now in
    let given = lent_rule w a.edition rule in
    let list = a.list.now in
    let plan = a.plan.now in
    let r = listed_answered w u a.edition t rule list plan {x = Pass} {y = Pass} c.in_ok-check_rule.ensures refl c.in_ok-check_list.ensures refl c.insert_listed_at.ensures.result_value c.insert_listed_at.ensures.plan_after c.insert_listed_at.ensures.list_after in
    let dropped = ap without_cover c.insert_listed_at.ensures.result_value ∙ (refreshed_dropped (insert_answer w u t given (length plan)) (insert_cover w t given) (stale_list w u t list) ∙ reply_dropped w u t given (length plan)) in
    record { result_value = r.0; plan_after = r.1; list_after = r.2; shortest = λ size p. demand_3_call w u t given plan _ _ (rule_action w (word rule)) dropped c.insert_listed_at.ensures.plan_after p.given }
