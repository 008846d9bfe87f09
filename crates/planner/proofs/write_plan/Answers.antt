-- `planner::write_plan` meets its contract.
-- The new rule's word is stored right after the chain's.
use mathlib.Core.Path.{ap, ◌∙◌}
use Prim.Native.Nat.{ℕ, ◌<◌}
use native.Mathlib.Omega.{arith}
use Rattle.layout.specs.Write.{put}
use Rattle.plan_words.specs.PlanWords.{write_word}
use Rattle.positions.proofs.PositionsLaws.{slot_below}
use Rattle.planner.proofs.EmitLaws.{stays_here}
use Rattle.planner.proofs.ChoiceLaws.{plan_stored}
use Rattle.planner.proofs.write_plan.Goals as goal

-- the slot of the new rule is below 1,024
low : (c : goal.After-slot_at-slot) → c.slot_at-slot.result < 1024
low c =
    let walk = c.requires.walkable in
    omega (
      arith,
      c.slot_at-slot.ensures,
      walk.few,
      slot_below c.args.slots c.args.choice.up c.args.choice.position (stays_here _ _ _ _ walk.stays),
    )

pub slot_at-slot-requires : goal.slot_at-slot-requires
slot_at-slot-requires c = stays_here _ _ _ _ c.requires.walkable.stays

pub overflow_cast-slot : goal.overflow_cast-slot
overflow_cast-slot c = omega (arith, low c)

pub word_of-requires : goal.word_of-requires
word_of-requires c = omega (arith, low c)

pub returns : goal.returns
returns c =
    plan_stored _ c.args.slots c.args.choice c.args.plan.now _ _ c.requires.cost_in_bounds c.emit.ensures
    (c.word_of.ensures ∙ ap (λ (slot : ℕ). write_word (put slot)) c.slot_at-slot.ensures)
