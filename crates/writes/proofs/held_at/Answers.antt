-- `writes::held_at` meets its contract.
-- The ids first, as they tell most slots apart.
use mathlib.Core.Path.{sym, ◌∙◌}
use mathlib.Core.Bool.{and-true, and-false}
use Rattle.records.specs.Writes.{held_at}
use Rattle.writes.proofs.held_at.Goals as goal

pub returns-then-same_id : goal.returns-then-same_id
unfolding held_at
returns-then-same_id c = rw (sym c.same_id.ensures ∙ c.if-same_id.true, and-true)

pub returns-else-same_id : goal.returns-else-same_id
unfolding held_at
returns-else-same_id c = c.if-same_id.false ∙ rw (sym c.same_id.ensures ∙ c.if-same_id.false, and-false)
