-- `lookups::lookup::slot_shown` meets its contract.
-- The check of the width decides first.
use mathlib.Core.Bool.{not}
use mathlib.Core.Path.{sym, ap, ◌∙◌}
use Rattle.search.specs.SearchLaws.{and_more, and_stop}
use Rattle.records.specs.Checks.{passes}
use Rattle.records.proofs.Laws.{checked_ok}
use Rattle.records.proofs.WidthsLaws.{width_law}
use Rattle.lookups.specs.Lookup.{shown_call}
use Rattle.lookups.proofs.LookupLaws.{declined}
use Rattle.lookups.proofs.lookup.slot_shown.Goals as goal

pub shown_at-requires : goal.shown_at-requires
shown_at-requires c = (width_law _).0 (sym c.check_width.ensures ∙ checked_ok _ (c.is_ok.ensures.negation ∙ ap not c.if-is_ok.true))

pub returns-then-is_ok : goal.returns-then-is_ok
unfolding shown_call
returns-then-is_ok c = and_more (ap passes c.check_width.ensures) (ap passes (checked_ok _ (c.is_ok.ensures.negation ∙ ap not c.if-is_ok.true))) c.shown_at.ensures

pub returns-else-is_ok : goal.returns-else-is_ok
unfolding shown_call
returns-else-is_ok c = c.if-is_ok.false ∙ and_stop _ (ap passes c.check_width.ensures) (declined _ (c.is_ok.ensures.negation ∙ ap not c.if-is_ok.false))
