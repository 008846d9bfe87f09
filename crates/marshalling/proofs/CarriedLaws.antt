-- End theorems on the number that carrying out returns: each case has its own, and a refusal's halves are its number and its spot.
use Rattle.std.specs.Prelude.{◌≡◌, refl, Bool, true, false, not, cond, ◌&&◌, List, [], ◌∷◌, eqb, length, get_or, Option, Some, None, Result, Ok, Err}
use Rattle.std.proofs.Common.{sym, ap, ◌∙◌, true≢false, arith}
use Prim.Native.Nat.{ℕ, zero, suc, ◌+◌, ◌*◌, ◌/◌, ◌%◌, ◌≤◌, ◌<◌}
use Rattle.records.specs.Checks.{Told, cause_number, success, refusal, unless, passes}
use Rattle.records.specs.Widths.{check_words, check_rule, leaves}
use Rattle.records.specs.Editions.{lent_rule}
use Rattle.records.specs.Verdict.{Check}
use Rattle.records.specs.Verdict.{Pass, Fail}
use Rattle.records.proofs.Laws.{cause_not_zero, cause_number_once}
use Rattle.records.specs.declared.Cause.{Cause}
use Rattle.records.specs.declared.Cause.TheVariants.{Shape, Record, Twice, Order, Rule as RuleCause, Known, Unknown, Tie, Full, Crossed, Short}
use Rattle.records.specs.declared.Cause.TheVariants.{Write, Line, Image, Uncrossed, Plan, Damage, Edition, Open, Session, Absent, Room}
use Rattle.buffers.specs.Buffers.{flag_number}
use Rattle.neighbour_lists.specs.Lists.{list_numbers, stale_list}
use Rattle.carrying.specs.Carrying.{step_told, done_told, step_call, progress_checks, write_checks, step_answer, step_writes, step_done}
use Rattle.carrying.specs.declared.StepInfo.{StepInfo}
use Rattle.records.specs.declared.Refusal.{Refusal}
use Rattle.carrying.proofs.StepsLaws.{done_refused, call_done_told}
use Rattle.carrying.proofs.SpotsLaws.{call_spot}
use Rattle.listed_steps.specs.ListedSteps.{listed_step, listed_step_reply, listed_step_done, listed_step_cell}
use Rattle.marshalling.specs.declared.Carried.{Carried}
use Rattle.marshalling.specs.Carried.{SameCase, SpotFits, carried_step, carry_result, carried_told, listed_carried_step}

-- each case of an answer has its number
pub carry_wrote : (info : StepInfo) → carry_result (step_told (Ok (Some info))) ≡ 0
carry_wrote info = refl

pub carry_finished : carry_result (step_told (Ok None)) ≡ 4294967295
carry_finished = refl

pub carry_refused : (cause : Cause) (spot : ℕ) → carry_result (step_told (Err (record { cause = cause; spot = spot }))) ≡ cause_number cause + spot * 4294967296
carry_refused cause spot = rw (cause_not_zero cause)

pub cause_small : (cause : Cause) → cause_number cause ≤ 22
cause_small Shape = omega arith
cause_small Record = omega arith
cause_small Twice = omega arith
cause_small Order = omega arith
cause_small RuleCause = omega arith
cause_small Known = omega arith
cause_small Unknown = omega arith
cause_small Tie = omega arith
cause_small Full = omega arith
cause_small Crossed = omega arith
cause_small Short = omega arith
cause_small Write = omega arith
cause_small Line = omega arith
cause_small Image = omega arith
cause_small Uncrossed = omega arith
cause_small Plan = omega arith
cause_small Damage = omega arith
cause_small Edition = omega arith
cause_small Open = omega arith
cause_small Session = omega arith
cause_small Absent = omega arith
cause_small Room = omega arith

-- a refusal's number and spot are the halves of it
pub carry_halves : (cause : Cause) (spot : ℕ) → spot < 4294967296
    → (carry_result (step_told (Err (record { cause = cause; spot = spot }))) % 4294967296 ≡ cause_number cause) × (carry_result (step_told (Err (record { cause = cause; spot = spot }))) / 4294967296 ≡ spot)
carry_halves cause spot f =
    let e = carry_refused cause spot in
    let low = cause_small cause in
    (omega (arith, e, low), omega (arith, e, low))

-- a cause's number is neither 0 nor as large as that of "finished"
pub cause_some : (cause : Cause) → 0 < cause_number cause
cause_some cause = by (cause_number cause) (cause_not_zero cause)
  where
    by : (n : ℕ) → eqb n 0 ≡ false → 0 < n
    by zero e = absurd (true≢false e)
    by (suc n) e = omega arith

-- answers with one number are the same case
pub carry_result_once : (a b : Result (Option StepInfo) Refusal) → SpotFits a → SpotFits b → carry_result (step_told a) ≡ carry_result (step_told b) → SameCase a b
carry_result_once (Ok (Some info)) (Ok (Some other)) f g e = tt
carry_result_once (Ok (Some info)) (Ok None) f g e = omega (arith, e)
carry_result_once (Ok (Some info)) (Err refused) f g e = omega (arith, e ∙ carry_refused refused.cause refused.spot, cause_some refused.cause, cause_small refused.cause)
carry_result_once (Ok None) (Ok (Some other)) f g e = omega (arith, e)
carry_result_once (Ok None) (Ok None) f g e = tt
carry_result_once (Ok None) (Err refused) f g e = omega (arith, e ∙ carry_refused refused.cause refused.spot, cause_some refused.cause, cause_small refused.cause)
carry_result_once (Err refused) (Ok (Some other)) f g e = omega (arith, sym e ∙ carry_refused refused.cause refused.spot, cause_some refused.cause, cause_small refused.cause)
carry_result_once (Err refused) (Ok None) f g e = omega (arith, sym e ∙ carry_refused refused.cause refused.spot, cause_some refused.cause, cause_small refused.cause)
carry_result_once (Err refused) (Err other) f g e =
    let same = sym (carry_refused refused.cause refused.spot) ∙ (e ∙ carry_refused other.cause other.spot) in (
      cause_number_once refused.cause other.cause (omega (arith, same, cause_small refused.cause, cause_small other.cause)),
      omega (arith, same, cause_small refused.cause, cause_small other.cause),
    )

-- the spot of every call's answer has 32 bits where the writes done have, so that this is said of any two calls
pub step_spot_fits : (w edition : ℕ) (t plan rule : List ℕ) (done total : ℕ) (a : Result (Option StepInfo) Refusal) → step_told a ≡ step_call w edition t plan rule done total
    → done < 4294967296 → SpotFits a
step_spot_fits w edition t plan rule done total (Ok (Some info)) e h = tt
step_spot_fits w edition t plan rule done total (Ok None) e h = tt
step_spot_fits w edition t plan rule done total (Err refused) e h = call_spot w edition t plan rule done total 4294967296 (omega arith) h refused.cause refused.spot e

-- a refusal, as it crosses
pub carried_refused : (cause : Cause) (spot done : ℕ) {n : ℕ} → n ≡ cause_number cause
    → ◌≡◌ {A = Carried} (record { done = done; result = n + spot * 4294967296 }) (carried_told (refusal cause spot) done)
carried_refused cause spot done e = rw (e, cause_not_zero cause)

-- what is told of a call is what crosses
pub carry_ends : (w edition : ℕ) (t plan rule : List ℕ) (done total : ℕ) {told : Told} {carried : Carried} → told ≡ step_call w edition t plan rule done total
    → carried ≡ carried_told told done → carried ≡ carried_step w edition t plan rule done total
carry_ends w edition t plan rule done total e m =
    let d = ap (λ (x : Told). done_told x done) e ∙ call_done_told w edition t plan rule done total in
    let n = ap carry_result e in
    m ∙ (λ i. record { done = d i; result = n i })

-- the cell for whether the list was worked out afresh, the second value of an answer that wrote
abbrev refreshed_cell : Told → ℕ → ℕ
refreshed_cell told before = cond (eqb told.number 0) (get_or told.values 1 before) before

-- what crosses of a step with a neighbour list: its answer tells the writes done, its number and whether the list was worked out afresh
module _ (w : ℕ) (u : Bool) (e : ℕ) (t plan rule list : List ℕ) (done total : ℕ) where
  abbrev reply : Told
  reply = listed_step_reply w u e t plan rule list done total

  listed_turn : (done_told reply done ≡ listed_step_done w e t plan rule (length list) done total)
      × (carry_result reply ≡ carry_result (listed_step w e t plan rule (length list) done total))
      × ((before : ℕ) → refreshed_cell reply before ≡ listed_step_cell w u e t plan rule list done total before)
  unfolding step_answer step_done step_writes
  listed_turn =
      turn (check_words (length list) (list_numbers w t)) (check_rule w (length rule)) (progress_checks w t (length plan) done total) (eqb done total)
      (write_checks w t (lent_rule w e rule) (get_or plan done 0) done)
    where
      flag : ℕ
      flag = flag_number (stale_list w u t list)

      answer : Check → Bool → Check → Told
      answer p b q = unless p (cond b (success []) (unless q (success ((done + 1) ∷ []))))

      writes : Check → Bool → Check → Bool
      writes p b q = passes p && (not b && passes q)

      told : Check → Check → Check → Bool → Check → Told
      told x y p b q = cond (passes x && (passes y && writes p b q)) (success ((done + 1) ∷ flag ∷ [])) (unless x (unless y (answer p b q)))

      refused : (cause : Cause) (spot : ℕ) → (done_told (refusal cause spot) done ≡ done) × (carry_result (refusal cause spot) ≡ carry_result (refusal cause spot))
          × ((before : ℕ) → refreshed_cell (refusal cause spot) before ≡ before)
      refused cause spot = (done_refused cause spot done, refl, λ before. rw (cause_not_zero cause))

      turn : (x y p : Check) (b : Bool) (q : Check)
          → (done_told (told x y p b q) done ≡ leaves x (leaves y (cond (writes p b q) (done + 1) done) done) done)
          × (carry_result (told x y p b q) ≡ carry_result (unless x (unless y (answer p b q))))
          × ((before : ℕ) → refreshed_cell (told x y p b q) before ≡ cond (passes x && (passes y && writes p b q)) flag before)
      turn Pass Pass Pass true q = (refl, refl, λ before. refl)
      turn Pass Pass Pass false Pass = (refl, refl, λ before. refl)
      turn Pass Pass Pass false (Fail cause spot) = refused cause spot
      turn Pass Pass (Fail cause spot) b q = refused cause spot
      turn Pass (Fail cause spot) p b q = refused cause spot
      turn (Fail cause spot) y p b q = refused cause spot

  pub listed_carried : {told : Told} {carried : Carried} → told ≡ reply → carried ≡ carried_told told done → carried ≡ listed_carried_step w e t plan rule (length list) done total
  listed_carried f m =
      let d = ap (λ (x : Told). done_told x done) f ∙ listed_turn.0 in
      let n = ap carry_result f ∙ listed_turn.1 in
      m ∙ (λ i. record { done = d i; result = n i })

  pub listed_cell : {told : Told} (before : ℕ) → told ≡ reply → refreshed_cell told before ≡ listed_step_cell w u e t plan rule list done total before
  listed_cell before f = ap (λ (x : Told). refreshed_cell x before) f ∙ listed_turn.2 before
