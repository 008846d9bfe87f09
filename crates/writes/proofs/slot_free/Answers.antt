-- `writes::slot_free` meets its contract.
-- The other slots are asked for only where the slot is occupied.
use mathlib.Core.Path.{sym, ◌∙◌}
use Rattle.carrying.proofs.StepsLaws.{free_empty, free_occupied}
use Rattle.writes.proofs.slot_free.Goals as goal

pub returns-then-slot_empty : goal.returns-then-slot_empty
returns-then-slot_empty c = c.if-slot_empty.true ∙ free_empty _ _ _ (sym c.slot_empty.ensures ∙ c.if-slot_empty.true)

pub returns-else-slot_empty : goal.returns-else-slot_empty
returns-else-slot_empty c = c.stands_elsewhere.ensures ∙ free_occupied _ _ _ (sym c.slot_empty.ensures ∙ c.if-slot_empty.false)
