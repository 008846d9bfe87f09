-- When a choice in numbers is a layout's: its direction and cost, and where the cost is finite its slot and the words of its moves.
use Rattle.std.specs.Prelude.{◌≡◌, not, cond, map, ℕ, ◌<◌}
use Rattle.layout.specs.Write.{moves}
use Rattle.layout.specs.Plan.{Range, Choice}
use Rattle.plan_words.specs.PlanWords.{write_word}
use Rattle.positions.specs.Positions.{slot_at}
use Rattle.planner.specs.Emit.{Stays, emitted}
use Rattle.planner.specs.declared.SlotRange.{SlotRange}
use Rattle.planner.specs.declared.PositionChoice.{PositionChoice}

-- a range of slots, as the layout has it
abbrev pub range_of : SlotRange → Range
range_of r = record { from = r.from; to = r.to }

-- what a choice of finite cost gives: the slot, a walk that stays among the positions, and the words of the chain's moves
pub record Emits (c : ℕ → ℕ) (n : ℕ) (choice : PositionChoice) (planned : Choice) : Type 0 where
  pub slot : slot_at n choice.up choice.position ≡ planned.slot
  pub stays : Stays c n choice.position choice.cost
  pub words : emitted c n choice.up choice.position choice.cost ≡ map write_word (moves planned.slot planned.chain)

pub record Agrees (n : ℕ) (down up : ℕ → ℕ) (choice : PositionChoice) (planned : Choice) : Type 0 where
  pub direction : planned.down ≡ not choice.up
  pub cost : choice.cost ≡ planned.cost
  pub finite : planned.cost < n → Emits (cond choice.up up down) n choice planned
