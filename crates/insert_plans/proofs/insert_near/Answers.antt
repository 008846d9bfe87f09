-- `insert_plans::insert_near` meets its contract.
-- A refusal where a check of the table fails; else the plan by the neighbour list that the checks have left.
use mathlib.Core.Path.{refl, sym, ap, ◌∙◌}
use mathlib.Core.Bool.{true≢false}
use Prim.Native.Nat.{ℕ}
use native.Mathlib.Omega.{arith}
use lib.Dec.{eqb}
use Rattle.records.specs.Editions.{lent_rule, ranked}
use Rattle.records.proofs.Laws.{stops, is_refusal, cause_not_zero}
use Rattle.records.specs.Checks.{Told}
use Rattle.records.specs.Verdict.{Fail}
use Rattle.buffers.specs.Buffers.{insert_answer_told}
use Rattle.buffers.proofs.BuffersLaws.{buffer_refused, cover_refused}
use Rattle.neighbours.specs.Neighbours.{insert_checks}
use Rattle.insert_plans.specs.Inserts.{planned_words, insert_cover}
use Rattle.insert_plans.proofs.insert_near.Goals as goal

pub returns-in_err-check_listed : goal.returns-in_err-check_listed
unfolding insert_checks
returns-in_err-check_listed c =
    let a = c.args in
    let given = lent_rule a.mode.width a.edition a.rule.now in
    let refused = buffer_refused {x = Fail _ _} (planned_words a.mode.width a.mode.uncounted a.table.now (ranked a.mode.width given)) a.plan.now
    (stops _ c.in_err-check_listed.ensures.value) refl in
    let exit = ap insert_answer_told (is_refusal _ c.from_residual.ensures.1) in record {
      result_value = exit ∙ cover_refused _ _ (insert_cover a.mode.width a.table.now given) refused.0;
      plan_after = refused.1;
      table_value = λ zero. absurd (true≢false (sym (ap (λ (n : ℕ). eqb n 0) (sym (ap (λ (t : Told). t.number) exit) ∙ zero)) ∙ cause_not_zero _));
    }

pub plan_listed-requires : goal.plan_listed-requires
plan_listed-requires c =
    let pre = c.requires in
    let found = c.in_ok-check_listed.ensures in
    record { width = (pre.0, sym found.value, omega (arith, pre.2, c.check_listed.auto.near), found.listed refl); rule_len = pre.1 }

pub returns : goal.returns
returns c =
    let found = c.in_ok-check_listed.ensures in
    record { result_value = c.plan_listed.ensures.result_value; plan_after = c.plan_listed.ensures.plan_after; table_value = λ zero. (sym found.value, found.listed refl) }
