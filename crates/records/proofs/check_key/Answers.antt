-- `records::check_key` meets its contract.
-- The width's check decides first.
use mathlib.Core.Path.{ap, ◌∙◌}
use Rattle.records.proofs.Laws.{stops, goes_on, is_refusal}
use Rattle.records.specs.Verdict.{checked}
use Rattle.records.specs.Widths.{check_key}
use Rattle.records.proofs.check_key.Goals as goal

pub returns-in_err-check_width : goal.returns-in_err-check_width
unfolding check_key
returns-in_err-check_width c = ap checked (is_refusal _ c.from_residual.ensures.1) ∙ stops _ c.in_err-check_width.ensures

pub returns : goal.returns
unfolding check_key
returns c = goes_on c.in_ok-check_width.ensures c.check_words.ensures
