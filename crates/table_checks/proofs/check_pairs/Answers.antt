-- `table_checks::check_pairs` meets its contract.
-- Check 4 is made, and the list filled, where check 3 passes.
use mathlib.Core.Path.{sym, ap, ◌∙◌}
use mathlib.Core.Bool.{false≢true}
use Rattle.records.specs.Verdict.{checked}
use Rattle.records.specs.Checks.{passes}
use Rattle.records.proofs.Laws.{is_refusal, stops, goes_on}
use Rattle.table_checks.proofs.check_pairs.Goals as goal

pub returns-in_err-check_twice : goal.returns-in_err-check_twice
returns-in_err-check_twice c =
    let refused = ap checked (is_refusal _ c.from_residual.ensures.1) in
    record { value = refused ∙ stops _ c.in_err-check_twice.ensures; listed = λ e. absurd (false≢true (ap passes (sym refused ∙ e))) }

pub returns : goal.returns
returns c = record { value = goes_on c.in_ok-check_twice.ensures c.check_order.ensures.value; listed = λ e. c.check_order.ensures.listed }
