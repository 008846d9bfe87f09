-- `delete_plans::delete_at` meets its contract.
-- One emptying word, where the checks pass.
-- the slot is one of at most 1,024
use mathlib.Core.Path.{◌≡◌, refl, sym, ap, ap₂, ◌∙◌}
use mathlib.Core.List.{[], ◌∷◌}
use Prim.Native.Nat.{ℕ, ◌≤◌}
use native.Mathlib.Omega.{arith}
use lib.ListN.{length}
use Rattle.layout.specs.Write.{clear}
use Rattle.plan_words.specs.PlanWords.{write_word}
use Rattle.records.specs.Verdict.{Check, Pass, Fail}
use Rattle.records.proofs.Laws.{is_refusal}
use Rattle.buffers.specs.Buffers.{plan_told, buffer_answer, buffer_after}
use Rattle.buffers.proofs.BuffersLaws.{buffer_refused}
use Rattle.delete_plans.specs.Deletes.{delete_checks, delete_words}
use Rattle.delete_plans.proofs.DeletesLaws.{delete_small}
use Rattle.delete_plans.proofs.delete_at.Goals as goal

low : (c : goal.After-slot_of_id-slot) → c.slot_of_id-slot.result ≤ 1024
low c = omega (arith, c.slot_of_id-slot.ensures, delete_small _ _ _ _ (sym c.in_ok-check_delete.ensures))

pub returns-in_err-check_delete : goal.returns-in_err-check_delete
returns-in_err-check_delete c =
    let a = c.args in
    let both = buffer_refused {x = Fail _ _} (delete_words a.mode.width a.table.now a.id) a.plan.now c.in_err-check_delete.ensures refl in
    record { result_value = ap plan_told (is_refusal _ c.from_residual.ensures.1) ∙ both.0; plan_after = both.1 }

pub overflow_cast-slot : goal.overflow_cast-slot
overflow_cast-slot c = omega (arith, low c)

pub word_of-requires : goal.word_of-requires
word_of-requires c = omega (arith, low c)

pub returns : goal.returns
returns c =
    let a = c.args in
    let plan = a.plan.now in
    let checks : Pass ≡ delete_checks a.mode.width a.mode.uncounted a.table.now a.id = c.in_ok-check_delete.ensures in
    let word = c.word_of.ensures ∙ ap (λ (slot : ℕ). write_word (clear slot)) c.slot_of_id-slot.ensures in
    record { result_value = c.answer_word.ensures.result_value ∙ ap (λ (x : Check). buffer_answer x 1 (length plan)) checks; plan_after = c.answer_word.ensures.plan_after ∙ ap₂ (λ (x : Check) (word : ℕ). buffer_after x (word ∷ []) plan) checks word }
