-- `listed_steps::step_listed_at` meets its contract.
-- What the checks answer tells whether the write is made. Before it the list is made the table's, so that the write can bring it up to date.
use mathlib.Core.Path.{refl, sym, ap, ap₂, ◌∙◌, subst}
use mathlib.Core.Bool.{Bool}
use mathlib.Core.List.{List, [], ◌∷◌}
use Prim.Native.Nat.{ℕ}
use native.Mathlib.Omega.{arith}
use lib.ListN.{length}
use Rattle.records.specs.Checks.{success}
use Rattle.std.specs.Prelude.{Ok}
use Rattle.records.proofs.Laws.{is_refusal}
use Rattle.records.specs.Editions.{lent_rule}
use Rattle.buffers.specs.Buffers.{flag_number}
use Rattle.neighbour_lists.specs.Lists.{Listed}
use Rattle.neighbour_lists.proofs.LentLaws.{list_length, list_listed, listed_whole}
use Rattle.carrying.specs.Carrying.{step_told, step_table}
use Rattle.carrying.proofs.StepsLaws.{answer_tells, done_refused}
use Rattle.listed_steps.specs.ListedSteps.{listed_step_told}
use Rattle.listed_steps.specs.ListedStepsLaws.{writes_table, writes_slots, writes_done, answer_still}
use Rattle.listed_steps.proofs.step_listed_at.Goals as goal

pub refresh_list-refreshed-requires : goal.refresh_list-refreshed-requires
refresh_list-refreshed-requires c =
    let a = c.args in
    let given = lent_rule a.mode.width a.edition a.rule.now in
    let step = answer_tells a.mode.width a.table.now a.plan.now given a.done a.total (c.in_ok-next_step.was ∙ ap Ok c.in-Some.is) c.next_step.ensures in
    let sound = writes_table a.mode.width a.table.now a.plan.now given a.done a.total step in
    (c.requires.0, sound.0, sound.1, c.requires.2)

pub bounds-plan-done : goal.bounds-plan-done
bounds-plan-done c =
    let a = c.args in
    let given = lent_rule a.mode.width a.edition a.rule.now in
    let step = answer_tells a.mode.width a.table.now a.plan.now given a.done a.total (c.in_ok-next_step.was ∙ ap Ok c.in-Some.is) c.next_step.ensures in
    omega (arith, step.more, step.within)

pub write_listed-requires : goal.write_listed-requires
write_listed-requires c =
    let a = c.args in
    let given = lent_rule a.mode.width a.edition a.rule.now in
    let step = answer_tells a.mode.width a.table.now a.plan.now given a.done a.total (c.in_ok-next_step.was ∙ ap Ok c.in-Some.is) c.next_step.ensures in
    let sound = writes_table a.mode.width a.table.now a.plan.now given a.done a.total step in
    let list = c.refresh_list-refreshed.ensures.list_after in
    let size = ap length list ∙ list_length a.mode.width a.mode.uncounted a.table.now in record { width = (c.requires.0, c.requires.1, step.fits, step.sound); table_bound = (sound.0, sound.1, omega (arith, size), subst (Listed a.mode.width a.mode.uncounted a.table.now) (sym list) (list_listed a.mode.width a.mode.uncounted a.table.now)) }

pub returns-in-Some : goal.returns-in-Some
returns-in-Some c =
    let a = c.args in
    let given = lent_rule a.mode.width a.edition a.rule.now in
    let step = answer_tells a.mode.width a.table.now a.plan.now given a.done a.total (c.in_ok-next_step.was ∙ ap Ok c.in-Some.is) c.next_step.ensures in
    let after = step_table a.mode.width a.table.now a.plan.now given a.done a.total in
    let done = writes_done a.mode.width a.table.now a.plan.now given a.done a.total _ (c.in_ok-next_step.was ∙ ap Ok c.in-Some.is) c.next_step.ensures step in
    let table = c.write_listed.ensures.table_after ∙ step.made in
    let size = writes_slots a.mode.width a.table.now a.plan.now given a.done a.total step in
    let listed = subst (λ (t : List ℕ). Listed a.mode.width a.mode.uncounted t c.write_listed.new.list) table c.write_listed.ensures.listed in
    rw step.writes (record {
      result_value = ap₂ (λ (n : ℕ) (b : Bool). success (n ∷ flag_number b ∷ [])) done c.refresh_list-refreshed.ensures.value;
      table_after = table;
      list_after = listed_whole a.mode.width a.mode.uncounted after c.write_listed.new.list listed (omega (arith, size, c.requires.2));
    })

pub returns-in-None : goal.returns-in-None
returns-in-None c =
    let a = c.args in
    let given = lent_rule a.mode.width a.edition a.rule.now in
    let is = c.in_ok-next_step.was ∙ ap Ok c.in-None.is in
    let still = answer_still a.mode.width a.table.now a.plan.now given a.done a.total is c.next_step.ensures refl in
    rw still (record {
      result_value = sym (ap step_told is) ∙ c.next_step.ensures;
      table_after = answer_tells a.mode.width a.table.now a.plan.now given a.done a.total is c.next_step.ensures;
      list_after = refl;
    })

pub returns-in_err-next_step : goal.returns-in_err-next_step
returns-in_err-next_step c =
    let a = c.args in
    let given = lent_rule a.mode.width a.edition a.rule.now in
    let is = c.in_err-next_step.was in
    let still = answer_still a.mode.width a.table.now a.plan.now given a.done a.total is c.next_step.ensures (done_refused c.in_err-next_step.field-0.0.cause c.in_err-next_step.field-0.0.spot a.done) in
    rw still (record {
      result_value = ap listed_step_told (is_refusal _ c.from_residual.ensures.1) ∙ sym (ap step_told is) ∙ c.next_step.ensures;
      table_after = answer_tells a.mode.width a.table.now a.plan.now given a.done a.total is c.next_step.ensures;
      list_after = refl;
    })
