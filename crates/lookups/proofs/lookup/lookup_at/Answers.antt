-- `lookups::lookup::lookup_at` meets its contract.
-- A refusal where a check fails; else the answer for the first match.
use mathlib.Core.Path.{sym, ap, ◌∙◌}
use Rattle.records.proofs.Laws.{is_refusal, told_stops, told_goes_on, slot_checks_law, first_compared}
use Rattle.table_checks.specs.SlotsLaws.{few_slots}
use Rattle.lookups.specs.Lookup.{lookup_told, lookup_answer, match_told}
use Rattle.lookups.proofs.lookup.lookup_at.Goals as goal

pub returns-in_err-check_slots : goal.returns-in_err-check_slots
unfolding lookup_answer
returns-in_err-check_slots c = ap lookup_told (is_refusal _ c.from_residual.ensures.1) ∙ told_stops _ c.in_err-check_slots.ensures

pub match_answer-requires : goal.match_answer-requires
match_answer-requires c = (c.requires.0, few_slots _ _ (sym c.in_ok-check_slots.ensures))

pub returns : goal.returns
unfolding lookup_answer
returns c =
    let start = c.args in
    let first = c.first_match.ensures ∙ first_compared _ start.table.now _ ((slot_checks_law _ start.table.now).0 (sym c.in_ok-check_slots.ensures)).1 in
    told_goes_on c.in_ok-check_slots.ensures (c.match_answer.ensures ∙ ap (match_told _ _) first)
