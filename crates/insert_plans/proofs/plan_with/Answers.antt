-- `insert_plans::plan_with` meets its contract.
-- The costs of each direction stay as they were found, and the planner's choice from them is the layout's.
-- the choice that the planner took is the layout's
use mathlib.Core.Path.{ap, ◌∙◌}
use mathlib.Core.List.{List}
use Prim.Native.Nat.{ℕ}
use native.Mathlib.Omega.{arith}
use lib.ListN.{length}
use Rattle.records.specs.Verdict.{Pass}
use Rattle.buffers.specs.Buffers.{buffer_answer, buffer_after}
use Rattle.table_checks.specs.SlotsLaws.{table_few}
use Rattle.insert_plans.specs.Inserts.{choice_between, Joined}
use Rattle.insert_plans.proofs.InsertsLaws.{choice_joined}
use Rattle.insert_plans.proofs.plan_with.Goals as goal

pub costs_along-requires : goal.costs_along-requires
costs_along-requires c =
    let few = table_few c.args.mode.width c.args.mode.uncounted c.args.table.now c.requires.width.1 in
    record { width = (c.requires.width.0, few, omega (arith, c.requires.most_slots_in_bounds), omega (arith, c.requires.most_slots_in_bounds), omega (arith, c.requires.width.2)); table_value = (c.requires.width.1, c.requires.width.3) }

pub costs_along-requires-2 : goal.costs_along-requires-2
costs_along-requires-2 c =
    let few = table_few c.args.mode.width c.args.mode.uncounted c.args.table.now c.requires.width.1 in
    record { width = (c.requires.width.0, few, omega (arith, c.requires.most_slots_in_bounds, c.costs_along.auto.ends), omega (arith, c.requires.most_slots_in_bounds), omega (arith, c.requires.width.2)); table_value = (c.requires.width.1, c.requires.width.3) }

pub choose_insert-choice-requires : goal.choose_insert-choice-requires
choose_insert-choice-requires c =
    let few = table_few c.args.mode.width c.args.mode.uncounted c.args.table.now c.requires.width.1 in
    (omega arith, omega (arith, c.slot_count-slots.ensures, c.requires.dependant_bound.0), omega (arith, c.slot_count-slots.ensures, c.requires.most_slots_in_bounds, c.costs_along.auto.costs), omega (arith, c.slot_count-slots.ensures, c.requires.most_slots_in_bounds, c.costs_along-2.auto.costs))

pub write_choice-requires : goal.write_choice-requires
write_choice-requires c =
    let few = table_few c.args.mode.width c.args.mode.uncounted c.args.table.now c.requires.width.1 in
    let j = (let it : Joined c.slot_count-slots.result (choice_between c.args.mode.width c.args.mode.uncounted c.args.table.now c.args.after c.args.dependant) c.costs_along.new.costs c.costs_along-2.new.costs c.choose_insert-choice.result = let a = c.args in choice_joined a.mode.width a.mode.uncounted a.table.now _ a.after a.dependant c.slot_count-slots.ensures (omega (arith, c.slot_count-slots.ensures, c.requires.dependant_bound.1)) c.costs_along.new.costs c.costs_along-2.new.costs c.costs_along.ensures c.costs_along-2.ensures c.choose_insert-choice.result c.choose_insert-choice.ensures in it) in
    record { slots_le_most_slots = (omega arith, omega (arith, c.slot_count-slots.ensures, c.requires.most_slots_in_bounds, c.costs_along.auto.costs), omega (arith, c.slot_count-slots.ensures, c.requires.most_slots_in_bounds, c.costs_along-2.auto.costs), j.finite); stays = j.stays }

pub returns : goal.returns
returns c =
    let j = (let it : Joined c.slot_count-slots.result (choice_between c.args.mode.width c.args.mode.uncounted c.args.table.now c.args.after c.args.dependant) c.costs_along.new.costs c.costs_along-2.new.costs c.choose_insert-choice.result = let a = c.args in choice_joined a.mode.width a.mode.uncounted a.table.now _ a.after a.dependant c.slot_count-slots.ensures (omega (arith, c.slot_count-slots.ensures, c.requires.dependant_bound.1)) c.costs_along.new.costs c.costs_along-2.new.costs c.costs_along.ensures c.costs_along-2.ensures c.choose_insert-choice.result c.choose_insert-choice.ensures in it) in
    let plan = c.args.plan.now in record { result_value = c.write_choice.ensures.result_value ∙ ap (λ (words : List ℕ). buffer_answer Pass (length words) (length plan)) j.words; plan_after = c.write_choice.ensures.plan_after ∙ ap (λ (words : List ℕ). buffer_after Pass words plan) j.words }
