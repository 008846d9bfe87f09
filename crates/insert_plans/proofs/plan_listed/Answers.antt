-- `insert_plans::plan_listed` meets its contract.
-- The front of the working record is the rule's record with its rank, unless the rule is declined.
use mathlib.Core.Path.{◌≡◌, sym, ap, ◌∙◌, subst}
use mathlib.Core.List.{List}
use Prim.Native.Nat.{ℕ}
use native.Mathlib.Nat.{sub-zero}
use native.Mathlib.Omega.{arith}
use lib.ListN.{length, length-append}
use lib.Seq.{take_at}
use borrow.Author.Rules.{rules}
use Rattle.records.specs.Record.{record_words, slot_words}
use Rattle.records.specs.Checks.{check_records}
use Rattle.records.specs.Verdict.{Pass}
use Rattle.table_checks.specs.SlotsLaws.{table_few, table_records}
use Rattle.neighbours.specs.Neighbours.{FoundIn}
use Rattle.insert_plans.proofs.InsertsLaws.{lent_passes, lent_finite, lent_ranked, lent_found, lent_covered}
use Rattle.insert_plans.proofs.plan_listed.Goals as goal

pub check_for_insert-found-requires : goal.check_for_insert-found-requires
check_for_insert-found-requires c =
    let w = c.args.mode.width in
    let u = c.args.mode.uncounted in
    let t = c.args.table.now in
    (c.requires.width.0, table_few w u t c.requires.width.1, c.requires.rule_len, search rules, table_records w u t c.requires.width.1)

pub slice_bounds-plan_covered-end : goal.slice_bounds-plan_covered-end
slice_bounds-plan_covered-end c =
    let w = c.args.mode.width in
    let long : length c.check_for_insert-found.new.new ≡ record_words w = search rules in
    simp length-append (omega (arith, long, c.record_words-words.ensures))

pub plan_covered-requires : goal.plan_covered-requires
plan_covered-requires c =
    let a = c.args in
    let w = a.mode.width in
    let u = a.mode.uncounted in
    let t = a.table.now in
    let lent = a.rule.now in
    let number = c.record_words-words in
    let long : length c.check_for_insert-found.new.new ≡ record_words w = search rules in
    let front = take_at _ _ _ (long ∙ (sym number.ensures ∙ sym (sub-zero number.result))) in
    let ranks = lent_ranked w u a.edition t lent _ _ c.check_for_insert-found.ensures.result_value c.check_for_insert-found.ensures.after in record {
      width = c.requires.width;
      len = (
        ap length front ∙ long,
        subst (λ (l : List ℕ). FoundIn w u t (slot_words w l 0) c.check_for_insert-found.result) (sym front) c.check_for_insert-found.ensures.found_in,
        λ pass. subst (λ (l : List ℕ). check_records w l ≡ Pass) (sym (front ∙ ranks pass)) (lent_passes w u a.edition t lent c.requires.rule_len c.check_for_insert-found.ensures.result_value pass),
      );
      bound = λ pass. lent_finite w u a.edition t lent _ c.requires.width.1 c.requires.rule_len (sym c.check_for_insert-found.ensures.result_value ∙ pass) (front ∙ ranks pass);
    }

pub returns : goal.returns
returns c =
    let a = c.args in
    let w = a.mode.width in
    let u = a.mode.uncounted in
    let t = a.table.now in
    let lent = a.rule.now in
    let number = c.record_words-words in
    let long : length c.check_for_insert-found.new.new ≡ record_words w = search rules in
    let front = take_at _ _ _ (long ∙ (sym number.ensures ∙ sym (sub-zero number.result))) in
    let ranks = lent_ranked w u a.edition t lent _ _ c.check_for_insert-found.ensures.result_value c.check_for_insert-found.ensures.after in
    let answered = lent_found w u a.edition t lent _ a.plan.now c.requires.width.1 c.requires.rule_len _ c.check_for_insert-found.ensures.result_value (λ pass. front ∙ ranks pass) in
    let covered = lent_covered w u a.edition t lent _ a.plan.now c.requires.width.1 c.requires.rule_len _ c.check_for_insert-found.ensures.result_value (λ pass. front ∙ ranks pass) in
    record { result_value = c.plan_covered.ensures.result_value ∙ covered; plan_after = c.plan_covered.ensures.plan_after ∙ answered.1 }
