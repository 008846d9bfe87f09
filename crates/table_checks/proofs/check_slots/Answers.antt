-- `table_checks::check_slots` meets its contract.
-- Check 2 is made where check 1 passes.
use mathlib.Core.Path.{sym, ap, ◌∙◌}
use Rattle.records.specs.Verdict.{checked}
use Rattle.records.specs.Checks.{slot_checks}
use Rattle.records.proofs.Laws.{is_refusal, stops, goes_on}
use Rattle.records.proofs.EntriesLaws.{shaped_slots}
use Rattle.table_checks.proofs.check_slots.Goals as goal

pub returns-in_err-check_shape : goal.returns-in_err-check_shape
unfolding slot_checks
returns-in_err-check_shape c = ap checked (is_refusal _ c.from_residual.ensures.1) ∙ stops _ c.in_err-check_shape.ensures

pub check_records-requires : goal.check_records-requires
check_records-requires c = (c.requires, (shaped_slots _ _ (sym c.in_ok-check_shape.ensures)).1)

pub returns : goal.returns
unfolding slot_checks
returns c = goes_on c.in_ok-check_shape.ensures c.check_records.ensures
