-- `delete_plans::check_delete` meets its contract.
-- Each check is made where those before it pass.
use mathlib.Core.Path.{ap, ◌∙◌}
use Rattle.records.specs.Verdict.{checked}
use Rattle.records.proofs.Laws.{is_refusal, stops, goes_on}
use Rattle.delete_plans.specs.Deletes.{delete_checks}
use Rattle.delete_plans.proofs.DeletesLaws.{id_refused, id_accepted, id_found, id_absent}
use Rattle.delete_plans.proofs.check_delete.Goals as goal

pub returns-in_err-check_table : goal.returns-in_err-check_table
unfolding delete_checks
returns-in_err-check_table c = ap checked (is_refusal _ c.from_residual.ensures.1) ∙ stops _ c.in_err-check_table.ensures

pub returns-then-id-eq0 : goal.returns-then-id-eq0
unfolding delete_checks
returns-then-id-eq0 c = goes_on c.in_ok-check_table.ensures (id_refused _ _ c.if-id-eq0.true)

pub returns-then-slot_of_id-slot_count : goal.returns-then-slot_of_id-slot_count
unfolding delete_checks
returns-then-slot_of_id-slot_count c = goes_on c.in_ok-check_table.ensures (id_accepted _ c.if-id-eq0.false (id_found _ _ _ _ c.slot_of_id.ensures (rw c.slot_count.ensures at c.if-slot_of_id-slot_count.true)))

pub returns : goal.returns
unfolding delete_checks
returns c = goes_on c.in_ok-check_table.ensures (id_accepted _ c.if-id-eq0.false (id_absent _ _ _ _ c.slot_of_id.ensures (rw c.slot_count.ensures at c.if-slot_of_id-slot_count.false)))
