-- `neighbours::checks::check_full` meets its contract.
-- No slot below the loop's is empty.
use mathlib.Core.Path.{sym, ◌∙◌}
use native.Mathlib.Omega.{arith}
use Rattle.search.specs.SearchLaws.{none_start, none_more}
use Rattle.neighbours.proofs.NeighboursLaws.{room_at, room_none}
use Rattle.neighbours.proofs.checks.check_full.Goals as goal

pub loop-slot-init : goal.loop-slot-init
loop-slot-init c = none_start _ _

pub slot_empty-requires : goal.slot_empty-requires
slot_empty-requires c = (c.requires, omega arith)

pub returns-then-slot_empty : goal.returns-then-slot_empty
returns-then-slot_empty c = room_at _ _ _ (omega arith) (sym c.slot_empty.ensures ∙ c.if-slot_empty.true)

pub loop-slot-preserved : goal.loop-slot-preserved
loop-slot-preserved c = none_more _ _ _ c.loop-slot.invariant (omega arith) (sym c.slot_empty.ensures ∙ c.if-slot_empty.false)

pub returns : goal.returns
returns c = room_none _ _ (λ k h. c.loop-slot.invariant.1 k (omega arith))
