-- `neighbours::checks::check_for_insert` meets its contract.
-- The rule is ranked where 5 and 18 pass, and checked with its rank.
use mathlib.Core.Path.{refl, sym, ap, ◌∙◌}
use mathlib.Core.List.{List}
use Prim.Native.Nat.{ℕ}
use borrow.Author.Rules.{rules}
use Rattle.records.specs.Record.{slot_words}
use Rattle.records.proofs.Laws.{is_refusal, passed, stops}
use Rattle.records.specs.Editions.{lent_rule}
use Rattle.records.specs.Checks.{check_records}
use Rattle.records.proofs.EditionsLaws.{ranked_passes, given_law, ranked_record_lem}
use Rattle.neighbours.specs.Neighbours.{found_check, new_checks, rule_checks}
use Rattle.neighbours.proofs.checks.check_for_insert.Goals as goal

pub returns-in_err-check_given-clause-result_value : goal.returns-in_err-check_given-clause-result_value
unfolding rule_checks
returns-in_err-check_given-clause-result_value c = ap found_check (is_refusal _ c.from_residual.ensures.1) ∙ stops _ c.in_err-check_given.ensures

pub check_new-requires : goal.check_new-requires
check_new-requires c =
    let a = c.args in
    let w = a.mode.width in
    let pass = sym c.in_ok-check_given.ensures in
    let sound = ap (λ (l : List ℕ). check_records w l) c.rank_record.ensures ∙ ranked_passes w a.edition a.rule.now c.requires.2 pass in
    search (rules, sound)

pub returns-clause-result_value : goal.returns-clause-result_value
unfolding rule_checks
returns-clause-result_value c =
    let a = c.args in
    let w = a.mode.width in
    let lent = a.rule.now in
    let pass = sym c.in_ok-check_given.ensures in
    let is = c.rank_record.ensures ∙ ranked_record_lem w a.edition lent c.requires.2 ((given_law w (lent_rule w a.edition lent)).0 pass).0 in
    passed refl pass (c.check_new.ensures.result_value ∙ ap (λ (l : List ℕ). new_checks w a.mode.uncounted a.table.now (slot_words w l 0)) is)
