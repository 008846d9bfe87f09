-- `step_checks::check_progress` meets its contract.
-- The progress is looked at where checks 1 and 2 pass.
use Rattle.records.proofs.Laws.{is_refusal, stops, goes_on}
use mathlib.Core.Path.{ap, ◌∙◌}
use Rattle.records.specs.Verdict.{checked}
use Rattle.carrying.specs.Carrying.{progress_checks}
use Rattle.step_checks.proofs.check_progress.Goals as goal

pub returns-in_err-check_slots : goal.returns-in_err-check_slots
unfolding progress_checks
returns-in_err-check_slots c = ap checked (is_refusal _ c.from_residual.ensures.1) ∙ stops _ c.in_err-check_slots.ensures

pub returns-then-done-total : goal.returns-then-done-total
unfolding progress_checks
returns-then-done-total c = goes_on c.in_ok-check_slots.ensures (rw c.if-done-total.true)

pub returns : goal.returns
unfolding progress_checks
returns c = goes_on c.in_ok-check_slots.ensures (rw c.if-done-total.false)
