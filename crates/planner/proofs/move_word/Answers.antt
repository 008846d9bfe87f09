-- `planner::move_word` meets its contract.
-- Both slots are below 1,024.
use native.Mathlib.Omega.{arith}
use Rattle.positions.proofs.PositionsLaws.{slot_below}
use Rattle.planner.proofs.move_word.Goals as goal

pub overflow_cast-source : goal.overflow_cast-source
overflow_cast-source c = omega (arith, c.slot_at-source.ensures, slot_below c.args.slots c.args.up c.args.from (omega arith))

pub overflow_cast-target : goal.overflow_cast-target
overflow_cast-target c = omega (arith, c.slot_at-target.ensures, slot_below c.args.slots c.args.up c.args.to (omega arith))

pub word_of-requires : goal.word_of-requires
word_of-requires c = (
  omega (arith, c.slot_at-source.ensures, slot_below c.args.slots c.args.up c.args.from (omega arith)),
  omega (arith, c.slot_at-target.ensures, slot_below c.args.slots c.args.up c.args.to (omega arith)),
)
