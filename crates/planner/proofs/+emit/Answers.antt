-- `planner::emit` meets its contract.
-- On the way back each word is stored after those of the moves further on.
use Rattle.std.proofs.Common.{arith, ◌-◌}
use Rattle.costs.specs.Costs.{cost_of}
use Rattle.planner.specs.Emit.{emitted}
use Rattle.planner.proofs.EmitLaws.{emitted_stored, first_after, stays_here, stays_next}
use Rattle.planner.proofs.+emit.Goals as goal

pub returns-then-left-eq0 : goal.returns-then-left-eq0
unfolding emitted
returns-then-left-eq0 t c = rw c.if-left-eq0.true

pub overflow_add-position : goal.overflow_add-position
overflow_add-position t c = omega (arith, stays_here _ _ _ _ c.requires.stays)

pub emit-requires : goal.emit-requires
emit-requires t c =
    let a = c.args in
    let next = first_after (cost_of a.costs.now) a.slots a.position (a.left - 1) _ c.first_of_cost-next.ensures in (
      omega arith,
      record {
        few = c.requires.few;
        costs_long = c.requires.costs_long;
        plan_long = omega arith;
        stays = stays_next _ _ a.position a.left _ (omega arith) next c.requires.stays;
      },
    )

pub move_word-requires-clause-from_lt_slots : goal.move_word-requires-clause-from_lt_slots
move_word-requires-clause-from_lt_slots t c = stays_here _ _ _ _ c.requires.stays

pub move_word-requires-clause-to_lt_slots : goal.move_word-requires-clause-to_lt_slots
move_word-requires-clause-to_lt_slots t c =
    let a = c.args in
    let next = first_after (cost_of a.costs.now) a.slots a.position (a.left - 1) _ c.first_of_cost-next.ensures in
    stays_here _ _ _ _ (stays_next _ _ a.position a.left _ (omega arith) next c.requires.stays)

pub returns : goal.returns
returns t c =
    let a = c.args in
    let next = first_after (cost_of a.costs.now) a.slots a.position (a.left - 1) _ c.first_of_cost-next.ensures in
    emitted_stored (cost_of a.costs.now) a.slots a.up a.plan.now a.position a.left _ _ _ (omega arith) (omega arith) next c.emit.ensures c.move_word.ensures
