-- `records::check_rule` meets its contract.
-- The width's check decides first.
use mathlib.Core.Path.{sym, ap, ◌∙◌}
use Rattle.records.proofs.Laws.{stops, goes_on, is_refusal}
use Rattle.records.specs.Verdict.{checked}
use Rattle.records.specs.Widths.{check_words, check_rule}
use Rattle.records.proofs.WidthsLaws.{width_law}
use Rattle.records.proofs.check_rule.Goals as goal

pub returns-in_err-check_width : goal.returns-in_err-check_width
unfolding check_rule
returns-in_err-check_width c = ap checked (is_refusal _ c.from_residual.ensures.1) ∙ stops _ c.in_err-check_width.ensures

pub record_words-requires : goal.record_words-requires
record_words-requires c = ((width_law _).0 (sym c.in_ok-check_width.ensures)).1

pub returns : goal.returns
unfolding check_rule
returns c = goes_on c.in_ok-check_width.ensures (c.check_words.ensures ∙ ap (check_words _) c.record_words.ensures)
