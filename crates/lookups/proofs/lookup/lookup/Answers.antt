-- `lookups::lookup::lookup` meets its contract.
-- The check of the width and of the key's words decides first.
use mathlib.Core.Path.{sym, ap, ◌∙◌}
use Rattle.records.proofs.Laws.{is_refusal, told_stops, told_goes_on}
use Rattle.records.proofs.WidthsLaws.{key_law}
use Rattle.lookups.specs.Lookup.{lookup_told, lookup_call}
use Rattle.lookups.proofs.lookup.lookup.Goals as goal

pub returns-in_err-check_key : goal.returns-in_err-check_key
unfolding lookup_call
returns-in_err-check_key c = ap lookup_told (is_refusal _ c.from_residual.ensures.1) ∙ told_stops _ c.in_err-check_key.ensures

pub lookup_at-requires : goal.lookup_at-requires
lookup_at-requires c = (key_law _ _).0 (sym c.in_ok-check_key.ensures)

pub returns : goal.returns
unfolding lookup_call
returns c = told_goes_on c.in_ok-check_key.ensures c.lookup_at.ensures
