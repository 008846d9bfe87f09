-- `insert_plans::plan_between_neighbours` meets its contract.
-- Check 10 is made of the A and B that the plan is made between.
-- check 10 is that of the A and B found
use mathlib.Core.Path.{◌≡◌, refl, sym, ap, ap₂, subst₂, ◌∙◌}
use Prim.Native.Nat.{ℕ, ◌<◌}
use native.Mathlib.Omega.{arith}
use lib.ListN.{length}
use borrow.Author.Rules.{rules}
use Rattle.layout.specs.Plan.{Choice}
use Rattle.records.specs.Record.{slot_words}
use Rattle.records.specs.Order.{slots}
use Rattle.records.specs.Inserts.{plan_words}
use Rattle.records.specs.Verdict.{Check, Pass, Fail}
use Rattle.records.proofs.Laws.{is_refusal}
use Rattle.buffers.specs.Buffers.{plan_told, buffer_answer, buffer_after}
use Rattle.buffers.proofs.BuffersLaws.{buffer_refused}
use Rattle.table_checks.specs.SlotsLaws.{table_few, table_records}
use Rattle.neighbours.specs.Neighbours.{crossed_by, check_crossed}
use Rattle.neighbours.proofs.NeighboursLaws.{after_a_high, slot_b_high}
use Rattle.insert_plans.specs.Inserts.{choice_between, record_choice}
use Rattle.insert_plans.proofs.plan_between_neighbours.Goals as goal

pub after_a-after-requires : goal.after_a-after-requires
after_a-after-requires c =
    let records = table_records c.args.mode.width c.args.mode.uncounted c.args.table.now c.requires.width.1 in
    search (rules, records)

pub slot_b-dependant-requires : goal.slot_b-dependant-requires
slot_b-dependant-requires c =
    let records = table_records c.args.mode.width c.args.mode.uncounted c.args.table.now c.requires.width.1 in
    search (rules, records)

pub check_crossed-requires : goal.check_crossed-requires
check_crossed-requires c =
    let a = c.args in
    let few = table_few a.mode.width a.mode.uncounted a.table.now c.requires.width.1 in
    let new = slot_words a.mode.width a.new.now 0 in
    (omega (arith, c.after_a-after.ensures, after_a_high a.mode.width a.mode.uncounted a.table.now new), omega (arith, c.slot_b-dependant.ensures, slot_b_high a.mode.width a.mode.uncounted a.table.now new))

pub returns-in_err-check_crossed : goal.returns-in_err-check_crossed
unfolding check_crossed
returns-in_err-check_crossed c =
    let a = c.args in
    let both = buffer_refused {x = Fail _ _} (plan_words (record_choice a.mode.width a.mode.uncounted a.table.now (slot_words a.mode.width a.new.now 0))) a.plan.now (c.in_err-check_crossed.ensures ∙ ap₂ crossed_by c.after_a-after.ensures c.slot_b-dependant.ensures) refl in record { result_value = ap plan_told (is_refusal _ c.from_residual.ensures.1) ∙ both.0; plan_after = both.1 }

pub plan_between-requires : goal.plan_between-requires
unfolding check_crossed
plan_between-requires c =
    let a = c.args in
    let new = slot_words a.mode.width a.new.now 0 in record {
      width = c.requires.width;
      dependant_bound = (
        omega (arith, c.slot_b-dependant.ensures, slot_b_high a.mode.width a.mode.uncounted a.table.now new),
        subst₂ (λ (x y : ℕ). (choice_between a.mode.width a.mode.uncounted a.table.now x y).cost < slots a.mode.width a.table.now) (sym c.after_a-after.ensures) (sym c.slot_b-dependant.ensures)
            (c.requires.bound (sym (c.in_ok-check_crossed.ensures ∙ ap₂ crossed_by c.after_a-after.ensures c.slot_b-dependant.ensures))),
      );
    }

pub returns : goal.returns
unfolding check_crossed
returns c =
    let a = c.args in
    let plan = a.plan.now in
    let e : Pass ≡ check_crossed a.mode.width a.mode.uncounted a.table.now (slot_words a.mode.width a.new.now 0) = c.in_ok-check_crossed.ensures ∙ ap₂ crossed_by c.after_a-after.ensures c.slot_b-dependant.ensures in
    let between = ap₂ (choice_between a.mode.width a.mode.uncounted a.table.now) c.after_a-after.ensures c.slot_b-dependant.ensures in record { result_value = c.plan_between.ensures.result_value ∙ ap₂ (λ (k : Check) (x : Choice). buffer_answer k (length (plan_words x)) (length plan)) e between; plan_after = c.plan_between.ensures.plan_after ∙ ap₂ (λ (k : Check) (x : Choice). buffer_after k (plan_words x) plan) e between }
