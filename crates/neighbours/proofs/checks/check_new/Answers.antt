-- `neighbours::checks::check_new` meets its contract.
-- Where 8 or 9 would decline, and in a table without counters everywhere, the rule that is replaced decides.
use mathlib.Core.Path.{sym, ap, ◌∙◌}
use Rattle.records.specs.Record.{slot_words}
use Rattle.records.proofs.Laws.{checked_ok, is_refusal, stops}
use Rattle.neighbours.specs.Neighbours.{found_check, new_checks}
use Rattle.neighbours.proofs.NeighboursLaws.{neither, new_passed, new_searched, new_adds}
use Rattle.neighbours.proofs.checks.check_new.Goals as goal

pub returns-in_err-check_known-clause-result_value : goal.returns-in_err-check_known-clause-result_value
unfolding new_checks
returns-in_err-check_known-clause-result_value c = ap found_check (is_refusal _ c.from_residual.ensures.1) ∙ stops _ c.in_err-check_known.ensures

pub returns-then-is_err-mode-clause-result_value : goal.returns-then-is_err-mode-clause-result_value
returns-then-is_err-mode-clause-result_value c =
    let a = c.args in
    c.found_with.ensures.result_value
    ∙ new_searched a.mode.width a.mode.uncounted a.table.now (slot_words a.mode.width a.new.now 0) c.check_tie_full-room.ensures (sym c.in_ok-check_known.ensures)

pub returns : goal.returns
returns c =
    let a = c.args in
    let new = slot_words a.mode.width a.new.now 0 in
    let not = neither _ _ c.if-is_err-mode.false in
    let room = checked_ok _ (sym c.is_err.ensures.value ∙ not.0) in
    let known = sym c.in_ok-check_known.ensures in
    let tests = c.check_tie_full-room.ensures in record {
      result_value = new_passed a.mode.width a.mode.uncounted a.table.now new tests room known;
      found_in = new_adds a.mode.width a.mode.uncounted a.table.now new not.1 tests room known;
    }
