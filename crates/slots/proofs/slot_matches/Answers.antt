-- `slots::slot_matches` meets its contract.
use mathlib.Core.Path.{ap, ◌∙◌}
use mathlib.Core.Bool.{not}
use Rattle.search.specs.SearchLaws.{and_more, and_stop}
use Rattle.records.specs.Checks.{compared_at}
use Rattle.slots.proofs.slot_matches.Goals as goal

pub returns-then-pattern_matches : goal.returns-then-pattern_matches
unfolding compared_at
returns-then-pattern_matches c = and_more c.pattern_matches.ensures c.if-pattern_matches.true (ap not c.slot_unnamed.ensures)

pub returns-else-pattern_matches : goal.returns-else-pattern_matches
unfolding compared_at
returns-else-pattern_matches c = c.if-pattern_matches.false ∙ and_stop _ c.pattern_matches.ensures c.if-pattern_matches.false
