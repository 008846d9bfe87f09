-- `insert_plans::write_choice` meets its contract.
-- The buffer's length decides; the costs are those of the direction taken.
use mathlib.Core.Path.{sym, ap, subst, ◌∙◌}
use mathlib.Core.Bool.{Bool, cond}
use mathlib.Core.List.{◌++◌}
use Prim.Native.Nat.{suc}
use native.Mathlib.Omega.{arith}
use lib.ListN.{drop}
use Rattle.costs.specs.Costs.{cost_of}
use Rattle.planner.specs.Choice.{choice_words}
use Rattle.planner.specs.Emit.{Stays}
use Rattle.insert_plans.proofs.InsertsLaws.{write_short, write_done}
use Rattle.insert_plans.proofs.write_choice.Goals as goal

pub returns-then-plan-count : goal.returns-then-plan-count
returns-then-plan-count c = let a = c.args in let both = write_short (cost_of (cond a.choice.up a.up.now a.down.now)) a.slots a.choice a.plan.now c.if-plan-count.true in record { result_value = both.0; plan_after = both.1 }

pub write_plan-requires : goal.write_plan-requires
write_plan-requires c =
    let a = c.args in
    record {
      walkable = record {
        few = omega (arith, c.requires.slots_le_most_slots);
        costs_long = omega (arith, c.requires.slots_le_most_slots);
        plan_long = omega arith;
        stays = subst (λ (b : Bool). Stays (cost_of (cond b a.up.now a.down.now)) a.slots a.choice.position a.choice.cost) c.if-choice.true c.requires.stays;
      };
      cost_in_bounds = omega arith;
    }

pub returns-then-choice : goal.returns-then-choice
returns-then-choice c =
    let a = c.args in
    let both = write_done (cost_of (cond a.choice.up a.up.now a.down.now)) a.slots a.choice a.plan.now _ (omega arith)
    (c.write_plan.ensures
    ∙ ap (λ (b : Bool). choice_words (cost_of (cond b a.up.now a.down.now)) a.slots a.choice ++ drop (suc a.choice.cost) a.plan.now) (sym c.if-choice.true)) in record { result_value = both.0; plan_after = both.1 }

pub write_plan-requires-2 : goal.write_plan-requires-2
write_plan-requires-2 c =
    let a = c.args in
    record {
      walkable = record {
        few = omega (arith, c.requires.slots_le_most_slots);
        costs_long = omega (arith, c.requires.slots_le_most_slots);
        plan_long = omega arith;
        stays = subst (λ (b : Bool). Stays (cost_of (cond b a.up.now a.down.now)) a.slots a.choice.position a.choice.cost) c.if-choice.false c.requires.stays;
      };
      cost_in_bounds = omega arith;
    }

pub returns : goal.returns
returns c =
    let a = c.args in
    let both = write_done (cost_of (cond a.choice.up a.up.now a.down.now)) a.slots a.choice a.plan.now _ (omega arith)
    (c.write_plan-2.ensures
    ∙ ap (λ (b : Bool). choice_words (cost_of (cond b a.up.now a.down.now)) a.slots a.choice ++ drop (suc a.choice.cost) a.plan.now) (sym c.if-choice.false)) in record { result_value = both.0; plan_after = both.1 }
