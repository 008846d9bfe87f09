-- End theorems on carrying out through a lent record: each call joined with the state that demand 2 speaks of, whatever part of the plan it is lent.
use Rattle.std.specs.Prelude.{◌≡◌, List, ℕ, suc, length}
use Rattle.std.proofs.Common.{ap, ap₂, ◌∙◌}
use Rattle.records.specs.Record.{record_words}
use Rattle.records.specs.Checks.{Told, unless}
use Rattle.records.specs.Widths.{Width, check_rule, leaves}
use Rattle.records.specs.Editions.{lent_rule}
use Rattle.carrying.specs.Carrying.{step_answer, step_table, step_done}
use Rattle.carrying.specs.Calls.{after_calls, call_answer, Lent}
use Rattle.carrying.proofs.StepsLaws.{call_known}
use Rattle.carrying.proofs.CallsLaws.{step_lent}
use Rattle.marshalling.specs.Carried.{carry_result}
use Rattle.tcam.specs.declared.carry.Progress.{Progress}
use Rattle.tcam.specs.Carried.{CarryLeft}

-- calls one after the other, at a width that there is, with a rule of its words and one edition: on the state after so many calls of a plan the call tells the
-- answer, and leaves the state after one more
pub carry_call : (w e : ℕ) (t plan rule : List ℕ) (total calls result : ℕ) (after : List ℕ) (progress progress' : Progress)
    → Width w → length rule ≡ record_words w
    → progress.done ≡ (after_calls w t plan (lent_rule w e rule) total calls).done → progress.total ≡ total
    → CarryLeft w e (after_calls w t plan (lent_rule w e rule) total calls).table plan rule progress result after progress'
    → (result ≡ carry_result (call_answer w t plan (lent_rule w e rule) total calls))
    × (after ≡ (after_calls w t plan (lent_rule w e rule) total (suc calls)).table)
    × (progress'.done ≡ (after_calls w t plan (lent_rule w e rule) total (suc calls)).done) × (progress'.total ≡ total)
carry_call w e t plan rule total calls result after progress progress' known size done all left =
    let given = lent_rule w e rule in
    let u = (after_calls w t plan given total calls).table in
    let call = call_known w e u plan rule progress.done progress.total known size in (
      left.told ∙ (ap carry_result call.0 ∙ ap₂ (λ (d n : ℕ). carry_result (step_answer w u plan given d n)) done all),
      left.table ∙ (call.1 ∙ ap₂ (λ (d n : ℕ). step_table w u plan given d n) done all),
      left.advanced ∙ (call.2 ∙ ap₂ (λ (d n : ℕ). step_done w u plan given d n) done all),
      left.in_all ∙ all,
    )

-- a call that is lent the count's words of a plan buffer, or any number more, returns and leaves what one with the whole buffer does; so the law above
-- speaks of it too, even where one call is lent more than another
pub carry_lent : (w e : ℕ) (t plan lent rule : List ℕ) (progress : Progress) (result : ℕ) (after : List ℕ) (progress' : Progress)
    → Lent plan progress.total lent → CarryLeft w e t lent rule progress result after progress' → CarryLeft w e t plan rule progress result after progress'
carry_lent w e t plan lent rule progress result after progress' is left =
    let check = check_rule w (length rule) in
    let same = step_lent w plan lent (lent_rule w e rule) progress.total is t progress.done in
    record {
      told = left.told ∙ ap (λ (answer : Told). carry_result (unless check answer)) same.0;
      table = left.table ∙ ap (λ (table : List ℕ). leaves check table t) same.1;
      advanced = left.advanced ∙ ap (λ (done : ℕ). leaves check done progress.done) same.2;
      in_all = left.in_all;
    }
