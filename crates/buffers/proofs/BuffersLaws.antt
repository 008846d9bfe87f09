-- End theorems on lent buffers: how a call that writes into one ends, and that its answer loses nothing.
use Rattle.std.specs.Prelude.{◌≡◌, refl, Bool, true, false, List, [], ◌∷◌, ◌++◌, ℕ, ◌<◌, ◌≤◌, eqb, length, get_or, drop, Result, Ok}
use Rattle.std.proofs.Common.{sym, ap, ◌∙◌, true≢false, arith, lt-ltb, le-ltb, eqb-true}
use Rattle.std.proofs.Math.Decide.{dec_lt}
use Rattle.records.specs.Checks.{Told, success, refusal, unless, or_else}
use Rattle.records.proofs.Laws.{cause_not_zero, answer_told_once}
use Rattle.records.specs.declared.Cause.{Cause}
use Rattle.records.specs.declared.Cause.TheVariants.{Short}
use Rattle.records.specs.Verdict.{Check}
use Rattle.records.specs.Verdict.{Pass, Fail}
use Rattle.records.specs.declared.Refusal.{Refusal}
use Rattle.buffers.specs.declared.PlanInfo.{PlanInfo}
use Rattle.buffers.specs.declared.InsertInfo.{InsertInfo}
use Rattle.buffers.specs.declared.ListedInfo.{ListedInfo}
use Rattle.buffers.specs.Buffers.{plan_told, insert_answer_told, listed_answer_told, flag_number, with_refreshed, with_cover, without_cover, buffer_after, buffer_answer, check_room}

-- an answer's number and values lose nothing
pub plan_told_once : (a b : Result PlanInfo Refusal) → plan_told a ≡ plan_told b → a ≡ b
plan_told_once = answer_told_once _ (λ x y e i. record { count = ap (λ (l : List ℕ). get_or l 0 0) e i })

pub insert_told_once : (a b : Result InsertInfo Refusal) → insert_answer_told a ≡ insert_answer_told b → a ≡ b
insert_told_once = answer_told_once _ (λ x y e i. record { count = ap (λ (l : List ℕ). get_or l 0 0) e i; covered = ap (λ (l : List ℕ). get_or l 1 0) e i })

-- a flag's number is no other flag's
pub flag_once : (a b : Bool) → flag_number a ≡ flag_number b → a ≡ b
flag_once true true e = refl
flag_once true false e = absurd (omega (arith, e))
flag_once false true e = absurd (omega (arith, e))
flag_once false false e = refl

pub listed_told_once : (a b : Result ListedInfo Refusal) → listed_answer_told a ≡ listed_answer_told b → a ≡ b
listed_told_once = answer_told_once _ (λ x y e i. record {
  count = ap (λ (l : List ℕ). get_or l 0 0) e i;
  covered = ap (λ (l : List ℕ). get_or l 1 0) e i;
  refreshed = flag_once x.refreshed y.refreshed (ap (λ (l : List ℕ). get_or l 2 0) e) i;
})

-- the number that a success holds more: a refusal has none, ..
pub cover_refused : (cause : Cause) (spot covered : ℕ) {told : Told} → refusal cause spot ≡ told → refusal cause spot ≡ with_cover told covered
cover_refused cause spot covered e = sym (rw (cause_not_zero cause)) ∙ ap (λ (t : Told). with_cover t covered) e

-- .. so that it is asked only where there is a success
pub cover_asked : (told : Told) (c d : ℕ) → (told.number ≡ 0 → c ≡ d) → with_cover told c ≡ with_cover told d
cover_asked told c d same = pick (eqb told.number 0) refl
  where
    pick : (b : Bool) → eqb told.number 0 ≡ b → with_cover told c ≡ with_cover told d
    pick true e = ap (with_cover told) (same (eqb-true told.number 0 e))
    pick false e = rw e

-- without it the answer is as before
pub cover_dropped : (checks : Check) (needed room covered : ℕ) → without_cover (with_cover (buffer_answer checks needed room) covered) ≡ buffer_answer checks needed room
unfolding buffer_answer
cover_dropped checks needed room covered = pick (or_else checks (check_room needed room))
  where
    pick : (x : Check) → without_cover (with_cover (unless x (success (needed ∷ []))) covered) ≡ unless x (success (needed ∷ []))
    pick Pass = refl
    pick (Fail cause spot) = rw (cause_not_zero cause)

-- what a list adds to an insert's answer: a success tells whether it was worked out afresh, a refusal is as it was
pub refreshed_refused : (cause : Cause) (spot : ℕ) (flag : Bool) {told : Told} → refusal cause spot ≡ told → refusal cause spot ≡ with_refreshed told flag
refreshed_refused cause spot flag e = sym (rw (cause_not_zero cause)) ∙ ap (λ (t : Told). with_refreshed t flag) e

pub refreshed_planned : {a : Result InsertInfo Refusal} {info : InsertInfo} {flag stale : Bool} {told : Told} → a ≡ Ok info → insert_answer_told a ≡ told → flag ≡ stale
    → success (info.count ∷ info.covered ∷ flag_number flag ∷ []) ≡ with_refreshed told stale
refreshed_planned {info = info} {stale = stale} e f g =
    ap (with_refreshed (insert_answer_told (Ok info))) g ∙ ap (λ (t : Told). with_refreshed t stale) (sym (ap insert_answer_told e) ∙ f)

pub refreshed_dropped : (told : Told) (covered : ℕ) (flag : Bool) → without_cover (with_refreshed (with_cover told covered) flag) ≡ without_cover (with_cover told covered)
refreshed_dropped told covered flag = pick (eqb told.number 0) refl
  where
    pick : (b : Bool) → eqb told.number 0 ≡ b → without_cover (with_refreshed (with_cover told covered) flag) ≡ without_cover (with_cover told covered)
    pick true e = rw e
    pick false e = rw e

-- such a call ends in one of three ways
pub buffer_refused : {x checks : Check} {cause : Cause} {spot : ℕ} (contents buffer : List ℕ) → x ≡ checks → x ≡ Fail cause spot
    → (refusal cause spot ≡ buffer_answer checks (length contents) (length buffer)) × (buffer ≡ buffer_after checks contents buffer)
unfolding buffer_answer buffer_after
buffer_refused {cause = cause} {spot} contents buffer e f =
    let g = sym e ∙ f in (rw g, rw g)

pub buffer_short : {x checks : Check} (contents buffer : List ℕ) → x ≡ checks → x ≡ Pass → length buffer < length contents
    → (refusal Short (length contents) ≡ buffer_answer checks (length contents) (length buffer)) × (buffer ≡ buffer_after checks contents buffer)
unfolding buffer_answer buffer_after check_room
buffer_short contents buffer e f h =
    let g = sym e ∙ f in
    let s = lt-ltb (length buffer) (length contents) h in
    (rw (g, s), rw (g, s))

pub buffer_written : {x checks : Check} (contents buffer : List ℕ) → x ≡ checks → x ≡ Pass → length contents ≤ length buffer
    → (success (length contents ∷ []) ≡ buffer_answer checks (length contents) (length buffer)) × (contents ++ drop (length contents) buffer ≡ buffer_after checks contents buffer)
unfolding buffer_answer buffer_after check_room
buffer_written contents buffer e f h =
    let g = sym e ∙ f in
    let s = le-ltb (length buffer) (length contents) h in
    (rw (g, s), rw (g, s))

-- one that returns 0 has passed its checks
pub buffer_passed : (checks : Check) (needed room : ℕ) → (buffer_answer checks needed room).number ≡ 0 → checks ≡ Pass
unfolding buffer_answer
buffer_passed Pass needed room e = refl
buffer_passed (Fail cause spot) needed room e = absurd (true≢false (sym (ap (λ (n : ℕ). eqb n 0) e) ∙ cause_not_zero cause))

-- one that answers with a success has passed its checks, and its contents stand at the front of the buffer
pub buffer_accepted : (checks : Check) (contents buffer : List ℕ) (count : ℕ) → buffer_answer checks (length contents) (length buffer) ≡ success (count ∷ [])
    → (checks ≡ Pass) × (count ≡ length contents) × (buffer_after checks contents buffer ≡ contents ++ drop (length contents) buffer)
buffer_accepted (Fail cause spot) contents buffer count e =
    absurd (true≢false (sym (ap (λ (t : Told). eqb t.number 0) ((buffer_refused contents buffer refl refl).0 ∙ e)) ∙ cause_not_zero cause))
buffer_accepted Pass contents buffer count e = pick (dec_lt (length buffer) (length contents))
  where
    pick : Dec (length buffer < length contents) → (Pass ≡ Pass) × (count ≡ length contents) × (buffer_after Pass contents buffer ≡ contents ++ drop (length contents) buffer)
    pick (yes h) = absurd (true≢false (sym (ap (λ (t : Told). eqb t.number 0) ((buffer_short contents buffer refl refl h).0 ∙ e)) ∙ cause_not_zero Short))
    pick (no h) =
        let r = buffer_written contents buffer refl refl (omega arith) in
        (refl, sym (ap (λ (t : Told). get_or t.values 0 0) (r.0 ∙ e)), sym r.1)
