-- `delete_plans::has_id` meets its contract.
-- The id and the emptiness read are the slot's.
use mathlib.Core.Path.{sym, ◌∙◌}
use borrow.Author.Tests.{eq-eqb, ne_eqb}
use Rattle.delete_plans.specs.Deletes.{has_id}
use Rattle.delete_plans.proofs.has_id.Goals as goal

pub returns-then-slot_id-id : goal.returns-then-slot_id-id
unfolding has_id
returns-then-slot_id-id c = rw (c.slot_empty.ensures, eq-eqb _ _ (sym c.slot_id.ensures ∙ c.if-slot_id-id.true))

pub returns-else-slot_id-id : goal.returns-else-slot_id-id
unfolding has_id
returns-else-slot_id-id c = ne_eqb _ _ c.if-slot_id-id.false ∙ rw (ne_eqb _ _ (λ e. c.if-slot_id-id.false (c.slot_id.ensures ∙ e)))
