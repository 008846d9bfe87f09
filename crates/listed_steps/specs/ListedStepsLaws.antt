-- End theorems on a step with a list: its equations by the step without one, and that its answer loses nothing.
use Rattle.std.specs.Prelude.{◌≡◌, refl, Bool, false, List, [], ◌∷◌, ℕ, ◌+◌, ◌≤◌, length, get_or, Option, Some, None, Result, Ok}
use Rattle.std.proofs.Common.{sym, ◌∙◌, arith}
use Rattle.std.proofs.Math.Path.{ap}
use Rattle.std.proofs.Math.Bool.{cond, and-false}
use Rattle.plan_words.specs.PlanWords.{write_of}
use Rattle.records.specs.Order.{slots}
use Rattle.records.proofs.EntriesLaws.{shaped_slots}
use Rattle.records.proofs.WritesLaws.{apply_slots}
use Rattle.records.specs.Checks.{Told, success, refusal, check_records, slot_checks}
use Rattle.records.proofs.Laws.{answer_told_once, slot_checks_law, or_else_pass}
use Rattle.records.specs.Widths.{check_rule, check_words}
use Rattle.records.proofs.WidthsLaws.{leaves_same, shape_turn}
use Rattle.records.specs.Editions.{Given, lent_rule, ranked}
use Rattle.records.specs.declared.Cause.{Cause}
use Rattle.records.specs.Verdict.{Check}
use Rattle.records.specs.Verdict.{Pass, Fail}
use Rattle.buffers.specs.Buffers.{flag_number}
use Rattle.buffers.proofs.BuffersLaws.{flag_once}
use Rattle.neighbour_lists.specs.Lists.{list_numbers, list_of, stale_list}
use Rattle.carrying.specs.Carrying.{step_told, done_told, progress_checks, step_answer, step_writes, step_table, step_done}
use Rattle.carrying.specs.Steps.{Writes}
use Rattle.carrying.proofs.StepsLaws.{carried_below, answer_done, step_moved}
use Rattle.carrying.specs.declared.StepInfo.{StepInfo}
use Rattle.records.specs.declared.Refusal.{Refusal}
use Rattle.listed_steps.specs.declared.ListedStepInfo.{ListedStepInfo}
use Rattle.listed_steps.specs.ListedSteps.{listed_step_told, listed_step_values, listed_step_reply, listed_step_table, listed_step_list}

-- an answer's number and values lose nothing
pub listed_step_told_once : (a b : Result (Option ListedStepInfo) Refusal) → listed_step_told a ≡ listed_step_told b → a ≡ b
listed_step_told_once = answer_told_once listed_step_values same
  where
    same : (x y : Option ListedStepInfo) → listed_step_values x ≡ listed_step_values y → x ≡ y
    same (Some x) (Some y) e =
        λ i. Some (record { done = ap (λ (l : List ℕ). get_or l 0 0) e i; refreshed = flag_once x.refreshed y.refreshed (ap (λ (l : List ℕ). get_or l 1 0) e) i })
    same (Some x) None e = absurd (omega (arith, ap (λ (l : List ℕ). length l) e))
    same None (Some y) e = absurd (omega (arith, ap (λ (l : List ℕ). length l) e))
    same None None e = refl

-- a step that writes: its table passes checks 1 and 2, and has as many slots afterwards
module _ (w : ℕ) (t plan : List ℕ) (given : Given) (done total : ℕ) where
  pub writes_table : Writes w t plan given done total → (slots w t ≤ 1024) × (check_records w t ≡ Pass)
  unfolding progress_checks
  writes_table step =
      let checks = (slot_checks_law w t).0 ((or_else_pass (slot_checks w t) _).0 step.progress).0 in
      ((shaped_slots w t checks.0).1, checks.1)

  pub writes_slots : Writes w t plan given done total → slots w (step_table w t plan given done total) ≡ slots w t
  writes_slots step =
      ap (slots w) (sym step.made)
      ∙ apply_slots w t (ranked w given) (write_of (get_or plan done 0)) (carried_below w t (ranked w given) (write_of (get_or plan done 0)) step.fits)

  -- the writes done that it tells
  pub writes_done : {a : Result (Option StepInfo) Refusal} (info : StepInfo) → a ≡ Ok (Some info) → step_told a ≡ step_answer w t plan given done total → Writes w t plan given done total → info.done ≡ done + 1
  unfolding step_done
  writes_done info e told step = answer_done w t plan given done total e told ∙ ap (λ (b : Bool). cond b (done + 1) done) step.writes

  -- an answer by which as many writes are done as before
  pub answer_still : {a b : Result (Option StepInfo) Refusal} → a ≡ b → step_told a ≡ step_answer w t plan given done total → done_told (step_told b) done ≡ done → step_writes w t plan given done total ≡ false
  answer_still e told same = (step_moved w t plan given done total done (sym same ∙ answer_done w t plan given done total e told)).1 (omega arith)

-- the ways in which a call ends: its answer, the table and the list
abbrev ListedStepEnds : ℕ → Bool → ℕ → List ℕ → List ℕ → List ℕ → List ℕ → ℕ → ℕ → Told → List ℕ → List ℕ → Type 0
ListedStepEnds w u e t plan rule list done total told table left =
    (told ≡ listed_step_reply w u e t plan rule list done total) × (table ≡ listed_step_table w e t plan rule (length list) done total)
    × (left ≡ listed_step_list w u e t plan rule list done total)

-- the call, behind its two checks
module _ (w : ℕ) (u : Bool) (e : ℕ) (t plan rule list : List ℕ) (done total : ℕ) where
  -- refused by that of the width and the rule's words, which it makes first
  pub rule_refused : {x : Check} {cause : Cause} {spot : ℕ} → x ≡ check_rule w (length rule) → x ≡ Fail cause spot
      → ListedStepEnds w u e t plan rule list done total (refusal cause spot) t list
  rule_refused {x} {cause} {spot} h f =
      let is = sym h ∙ f in
      let turned = rw is at (shape_turn w (length rule) (length list) (list_numbers w t) (step_answer w t plan (lent_rule w e rule) done total)) in
      (rw (is, and-false) turned, rw is (leaves_same (check_words (length list) (list_numbers w t)) t), rw (is, and-false))

  -- .. by that of the list's numbers
  pub list_refused : {x : Check} {cause : Cause} {spot : ℕ} → x ≡ check_words (length list) (list_numbers w t) → x ≡ Fail cause spot
      → ListedStepEnds w u e t plan rule list done total (refusal cause spot) t list
  list_refused h f = let is = sym h ∙ f in (rw is, rw is, rw is)

  -- .. or as the step ends
  pub listed_stepped : {x y : Check} {told : Told} {table left : List ℕ} → x ≡ check_rule w (length rule) → x ≡ Pass → y ≡ check_words (length list) (list_numbers w t) → y ≡ Pass
      → told ≡ cond (step_writes w t plan (lent_rule w e rule) done total) (success ((done + 1) ∷ flag_number (stale_list w u t list) ∷ [])) (step_answer w t plan (lent_rule w e rule) done total)
      → table ≡ step_table w t plan (lent_rule w e rule) done total
      → left ≡ cond (step_writes w t plan (lent_rule w e rule) done total) (list_of w u (step_table w t plan (lent_rule w e rule) done total)) list
      → ListedStepEnds w u e t plan rule list done total told table left
  listed_stepped h f i g told table left =
      let rules = sym h ∙ f in
      let numbers = sym i ∙ g in
      (rw (numbers, rules) told, rw (numbers, rules) table, rw (numbers, rules) left)
