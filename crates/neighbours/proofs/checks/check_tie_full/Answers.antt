-- `neighbours::checks::check_tie_full` meets its contract.
-- 9 is tested where 8 passes.
use mathlib.Core.Path.{ap, ◌∙◌}
use Rattle.records.specs.Verdict.{checked}
use Rattle.records.proofs.Laws.{is_refusal, stops, goes_on}
use Rattle.neighbours.proofs.checks.check_tie_full.Goals as goal

pub returns-in_err-check_tie : goal.returns-in_err-check_tie
returns-in_err-check_tie c = ap checked (is_refusal _ c.from_residual.ensures.1) ∙ stops _ c.in_err-check_tie.ensures

pub returns : goal.returns
returns c = goes_on c.in_ok-check_tie.ensures c.check_full.ensures
