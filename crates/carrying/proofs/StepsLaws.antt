-- End theorems on a step: the tests of one write as the code makes them, and the ways in which a step ends.
-- A step that is refused or finished leaves the table and the writes done as they were.
use Rattle.std.specs.Prelude.{◌≡◌, refl, Bool, false, not, cond, ◌&&◌, ◌||◌, ◌≢◌, ◌⊎◌, List, [], ◌∷◌, ℕ, ◌+◌, ◌*◌, ◌≤◌, ◌<◌, eqb, ltb, leb, length, get_or, set, Option, Some, None, Result, Ok, Err}
use Rattle.std.proofs.Math.Path.{sym}
use Rattle.std.proofs.Common.{ap, ap₂, subst, ◌∙◌, true≢false, get_or-set_same, get_or-set_other, arith}
use Rattle.std.proofs.Math.Bool.{true, and-true}
use Rattle.std.proofs.Math.Logic.◌⊎◌.{inl, inr}
use borrow.Author.Tests.{eqb-true, eqb-false, eq-eqb, ne_eqb, leb-true, ltb-true}
use Rattle.search.specs.SearchLaws.{decided, all_cong, and_left, and_right}
use Rattle.layout.specs.Write.{Write, copy, put, clear}
use Rattle.plan_words.specs.PlanWords.{write_of, SlotsBelow}
use Rattle.records.specs.Record.{word, slot_words, rank, empty, occupied, sound_rule, record_words, record_of, rule_of}
use Rattle.records.specs.Order.{slots, same_pattern, equal_rule}
use Rattle.records.specs.Checks.{Told, success, refusal, unless, passes, slot_checks}
use Rattle.records.proofs.Laws.{failed, passed, or_else_pass, pass_law, sound_law, cause_not_zero, answer_told_once}
use Rattle.records.specs.Widths.{Width, check_rule, leaves}
use Rattle.records.proofs.WidthsLaws.{rule_law, lent_words}
use Rattle.records.proofs.RulesLaws.{rule_action}
use Rattle.records.proofs.EntriesLaws.{rule_occupied}
use Rattle.records.specs.Writes.{stands_elsewhere, free_at, fits_write, apply_write, apply_word}
use Rattle.records.specs.Editions.{Given, lent_rule, ranked, lent_rank, check_given}
use Rattle.records.proofs.EditionsLaws.{given_law, rank_sound, ranked_action, ranked_record_lem}
use Rattle.records.specs.declared.Rule.{Rule}
use Rattle.records.specs.declared.Cause.{Cause}
use Rattle.records.specs.declared.Cause.TheVariants.{Write as WriteCause}
use Rattle.records.specs.Verdict.{Check}
use Rattle.records.specs.Verdict.{Pass, Fail}
use Rattle.records.proofs.WritesLaws.{fits_below}
use Rattle.records.specs.declared.Refusal.{Refusal}
use Rattle.carrying.specs.declared.StepInfo.{StepInfo}
use Rattle.carrying.specs.Carrying.{step_told, step_values, done_told, progress_checks, put_checks, over_equal, fits_carried, written_slot, takes_rule, needs_no_room, write_checks, step_answer, step_writes, step_table, step_done}
use Rattle.carrying.specs.Carrying.{step_call, step_call_table, step_call_done}
use Rattle.carrying.specs.Steps.{StepEnds, StepTells}

-- a slot is free where it is empty, or where its id stands elsewhere
pub free_empty : (w : ℕ) (t : List ℕ) (j : ℕ) → empty w (slot_words w t j) ≡ true → true ≡ free_at w t j
unfolding free_at
free_empty w t j e = rw e

pub free_occupied : (w : ℕ) (t : List ℕ) (j : ℕ) → empty w (slot_words w t j) ≡ false → stands_elsewhere w t j ≡ free_at w t j
unfolding free_at
free_occupied w t j e = rw e

-- a copy's tests, in the code's order
pub copy_tests : (w : ℕ) (t : List ℕ) (from to : ℕ)
    → fits_write w t (copy from to) ≡ (not (eqb from to) && fits_write w t (clear from)) && fits_write w t (put to)
copy_tests w t from to =
    turn (ltb from (slots w t)) (ltb to (slots w t)) (not (eqb from to)) (occupied w (slot_words w t from)) (free_at w t to)
  where
    turn : (a b c d e : Bool) → a && (b && (c && (d && e))) ≡ (c && (a && d)) && (b && e)
    turn true b true true e = refl
    turn true true true false e = refl
    turn true false true false e = refl
    turn true true false d e = refl
    turn true false false d e = refl
    turn false b true d e = refl
    turn false b false d e = refl

-- a write that fits as document 01 has it fits when it is carried out, and the slots of one that does exist
module _ (w : ℕ) (t : List ℕ) (rule : Rule) where
  pub fits_carried_lem : (x : Write) → fits_write w t x ≡ true → fits_carried w t rule x ≡ true
  fits_carried_lem (copy from to) f = f
  fits_carried_lem (put to) f = ap (λ (b : Bool). b || over_equal w t rule to) f
  fits_carried_lem (clear to) f = f

  pub carried_below : (x : Write) → fits_carried w t rule x ≡ true → SlotsBelow (slots w t) x
  unfolding over_equal
  carried_below (copy from to) f = fits_below w t (copy from to) f
  carried_below (put to) f = pick (decided (fits_write w t (put to)))
    where
      pick : (fits_write w t (put to) ≡ true) ⊎ (fits_write w t (put to) ≡ false) → to < slots w t
      pick (inl g) = fits_below w t (put to) g
      pick (inr g) =
          let over : over_equal w t rule to ≡ true = sym (ap (λ (b : Bool). b || over_equal w t rule to) g) ∙ f in
          ltb-true to (slots w t) (and_left (ltb to (slots w t)) (equal_rule w (slot_words w t to) (word (record_of w rule))) over)
  carried_below (clear to) f = fits_below w t (clear to) f

  -- a write's tests, in the code's order
  fits_steps : (x : Write) → fits_carried w t rule x ≡ takes_rule w t x && (needs_no_room w t rule x || fits_write w t (put (written_slot x)))
  fits_steps (copy from to) = copy_tests w t from to
  fits_steps (put to) = turn (fits_write w t (put to)) (over_equal w t rule to)
    where
      turn : (a b : Bool) → a || b ≡ b || a
      turn true true = refl
      turn true false = refl
      turn false true = refl
      turn false false = refl
  fits_steps (clear to) = turn (fits_write w t (clear to))
    where
      turn : (a : Bool) → a ≡ a && true
      turn true = refl
      turn false = refl

  pub fits_stopped : (x : Write) {a : Bool} → a ≡ takes_rule w t x → a ≡ false → false ≡ fits_carried w t rule x
  fits_stopped x e f = sym (fits_steps x ∙ ap (λ (b : Bool). b && (needs_no_room w t rule x || fits_write w t (put (written_slot x)))) (sym e ∙ f))

  pub fits_settled : (x : Write) {a b : Bool} → a ≡ takes_rule w t x → a ≡ true → b ≡ needs_no_room w t rule x → b ≡ true → true ≡ fits_carried w t rule x
  fits_settled x e f g h = sym (fits_steps x ∙ ap₂ (λ (a b : Bool). a && (b || fits_write w t (put (written_slot x)))) (sym e ∙ f) (sym g ∙ h))

  pub fits_roomed : (x : Write) {a b c : Bool} → a ≡ takes_rule w t x → a ≡ true → b ≡ needs_no_room w t rule x → b ≡ false → c ≡ fits_write w t (put (written_slot x))
      → c ≡ fits_carried w t rule x
  fits_roomed x e f g h k = k ∙ sym (fits_steps x ∙ ap₂ (λ (a b : Bool). a && (b || fits_write w t (put (written_slot x)))) (sym e ∙ f) (sym g ∙ h))

-- a rule equal to the one given, as the code compares them: the rule is lent with its priority, and its rank is worked out
pub given_equal : (w e : ℕ) (lent : List ℕ) (x : ℕ → ℕ) → length lent ≡ record_words w → check_given w (lent_rule w e lent) ≡ Pass
    → equal_rule w x (word (record_of w (ranked w (lent_rule w e lent))))
    ≡ (same_pattern w x (slot_words w lent 0) && eqb (rank w x) (lent_rank w e lent)) && occupied w x
unfolding equal_rule same_pattern
given_equal w e lent x size good =
    ap₂ ◌&&◌ (ap₂ ◌&&◌ (all_cong (2 * w) (λ j h. ap (eqb (x j)) (pattern j h))) (ap (eqb (rank w x)) ranks))
    (ap (λ (b : Bool). occupied w x && b) filled ∙ and-true (occupied w x))
  where
    rule : Rule
    rule = ranked w (lent_rule w e lent)

    sound : sound_rule w (rule_of w (word lent)) ≡ true
    sound = ((given_law w (lent_rule w e lent)).0 good).0

    is : set lent (2 * w + 1) (lent_rank w e lent) ≡ record_of w rule
    is = ranked_record_lem w e lent size sound

    pattern : (j : ℕ) → j < 2 * w → word (record_of w rule) j ≡ slot_words w lent 0 j
    pattern j h =
        ap (λ (l : List ℕ). get_or l j 0) (sym is)
        ∙ (get_or-set_other lent (2 * w + 1) j (lent_rank w e lent) 0 (λ f. omega arith) ∙ ap (λ (y : ℕ → ℕ). y j) (sym (lent_words w lent)))

    ranks : rank w (word (record_of w rule)) ≡ lent_rank w e lent
    ranks = ap (λ (l : List ℕ). rank w (word l)) (sym is) ∙ get_or-set_same lent (2 * w + 1) (lent_rank w e lent) 0 (omega (arith, size))

    filled : occupied w (word (record_of w rule)) ≡ true
    filled =
        rule_occupied w rule ((sound_law w _ _ _ _).0 (rank_sound w (lent_rule w e lent) sound)).0 (omega (arith, rule_action w (word lent), ranked_action w (lent_rule w e lent)))

-- the write of a word, by the value that the code has taken it apart to
module _ (w : ℕ) (t : List ℕ) (n : ℕ) {x : Write} (e : x ≡ write_of n) (rule : Rule) where
  pub write_made : apply_write w t rule x ≡ apply_word w t rule n
  write_made = ap (apply_write w t rule) e

  -- the slots of a write that fits exist
  pub write_below : fits_carried w t rule (write_of n) ≡ true → SlotsBelow (slots w t) x
  write_below f = subst (SlotsBelow (slots w t)) (sym e) (carried_below w t rule (write_of n) f)

-- how the checks of the next write end
module _ (w : ℕ) (t : List ℕ) (n : ℕ) (given : Given) (done : ℕ) {x : Check} (e : x ≡ put_checks w given (write_of n)) where
  pub write_declined : {cause : Cause} {spot : ℕ} → x ≡ Fail cause spot → Fail cause spot ≡ write_checks w t given n done
  unfolding write_checks
  write_declined h = failed (cond (fits_carried w t (ranked w given) (write_of n)) Pass (Fail WriteCause done)) e h

  pub write_fits : {f : Bool} → x ≡ Pass → f ≡ fits_carried w t (ranked w given) (write_of n) → f ≡ true → Pass ≡ write_checks w t given n done
  unfolding write_checks
  write_fits h g i = passed e h (rw (← g, i))

  pub write_unfit : {f : Bool} → x ≡ Pass → f ≡ fits_carried w t (ranked w given) (write_of n) → f ≡ false → Fail WriteCause done ≡ write_checks w t given n done
  unfolding write_checks
  write_unfit h g i = passed e h (rw (← g, i))

module _ (w : ℕ) (t plan : List ℕ) (given : Given) (done total : ℕ) {x : Check} (e : x ≡ progress_checks w t (length plan) done total) where
  -- refused by 1, 2 or 12 on the progress
  pub step_declined : {cause : Cause} {spot : ℕ} → x ≡ Fail cause spot → StepEnds w t plan given done total (refusal cause spot) t done
  unfolding step_answer step_table step_done step_writes
  step_declined f = let g = sym e ∙ f in (rw g, rw g, rw g)

  -- finished
  pub step_finished : x ≡ Pass → done ≡ total → StepEnds w t plan given done total (success []) t done
  unfolding step_answer step_table step_done step_writes
  step_finished f d = let g = sym e ∙ f in let b = eq-eqb done total d in (rw (g, b), rw (g, b), rw (g, b))

  module _ (f : x ≡ Pass) (d : done ≢ total) {y : Check} (h : y ≡ write_checks w t given (get_or plan done 0) done) where
    -- refused by 5, 18 or 12 on the write
    pub step_unfit : {cause : Cause} {spot : ℕ} → y ≡ Fail cause spot → StepEnds w t plan given done total (refusal cause spot) t done
    unfolding step_answer step_table step_done step_writes
    step_unfit i = let g = sym e ∙ f in let b = ne_eqb done total d in let j = sym h ∙ i in (rw (g, b, j), rw (g, b, j), rw (g, b, j))

    -- the write is made
    pub step_wrote : y ≡ Pass → StepEnds w t plan given done total (success ((done + 1) ∷ [])) (apply_word w t (ranked w given) (get_or plan done 0)) (done + 1)
    unfolding step_answer step_table step_done step_writes
    step_wrote i = let g = sym e ∙ f in let b = ne_eqb done total d in let j = sym h ∙ i in (rw (g, b, j), rw (g, b, j), rw (g, b, j))

-- answers that tell the same are the same: the number and the values of a case lose nothing
pub step_told_once : (a b : Result (Option StepInfo) Refusal) → step_told a ≡ step_told b → a ≡ b
step_told_once = answer_told_once step_values same
  where
    same : (x y : Option StepInfo) → step_values x ≡ step_values y → x ≡ y
    same (Some x) (Some y) e = λ i. Some (record { done = ap (λ (l : List ℕ). get_or l 0 0) e i })
    same (Some x) None e = absurd (omega (arith, ap (λ (l : List ℕ). length l) e))
    same None (Some y) e = absurd (omega (arith, ap (λ (l : List ℕ). length l) e))
    same None None e = refl

-- the writes done that an answer tells: of a refusal as many as before
pub done_refused : (cause : Cause) (spot before : ℕ) → done_told (refusal cause spot) before ≡ before
done_refused cause spot before = rw (cause_not_zero cause)

-- a step's answer tells the writes done after it
pub done_told_lem : (w : ℕ) (t plan : List ℕ) (given : Given) (done total : ℕ)
    → done_told (step_answer w t plan given done total) done ≡ step_done w t plan given done total
unfolding step_answer step_done step_writes
done_told_lem w t plan given done total =
    turn (progress_checks w t (length plan) done total) (eqb done total) (write_checks w t given (get_or plan done 0) done)
  where
    turn : (x : Check) (b : Bool) (y : Check)
        → done_told (unless x (cond b (success []) (unless y (success ((done + 1) ∷ []))))) done ≡ cond (passes x && (not b && passes y)) (done + 1) done
    turn Pass true y = refl
    turn Pass false Pass = refl
    turn Pass false (Fail cause spot) = done_refused cause spot done
    turn (Fail cause spot) b y = done_refused cause spot done

pub answer_done : (w : ℕ) (t plan : List ℕ) (given : Given) (done total : ℕ) {a b : Result (Option StepInfo) Refusal} → a ≡ b → step_told a ≡ step_answer w t plan given done total
    → done_told (step_told b) done ≡ step_done w t plan given done total
answer_done w t plan given done total e f = ap (λ (told : Told). done_told told done) (sym (ap step_told e) ∙ f) ∙ done_told_lem w t plan given done total

-- a write that passes its checks fits, and a rule that it puts in passes 5 and 18
pub checked_write : (w : ℕ) (t : List ℕ) (given : Given) (n done : ℕ) → write_checks w t given n done ≡ Pass
    → (put_checks w given (write_of n) ≡ Pass) × (fits_carried w t (ranked w given) (write_of n) ≡ true)
unfolding write_checks
checked_write w t given n done e =
    let both = (or_else_pass (put_checks w given (write_of n)) (cond (fits_carried w t (ranked w given) (write_of n)) Pass (Fail WriteCause done))).0 e in
    (both.0, (pass_law WriteCause done (fits_carried w t (ranked w given) (write_of n))).0 both.1)

-- a progress that passes its check: done ≤ in all ≤ the plan's words
pub progress_within : (w : ℕ) (t : List ℕ) (words done total : ℕ) → progress_checks w t words done total ≡ Pass → (done ≤ total) × (total ≤ words)
unfolding progress_checks
progress_within w t words done total e =
    let h = (pass_law WriteCause done (leb done total && leb total words)).0
    ((or_else_pass (slot_checks w t) (cond (leb done total && leb total words) Pass (Fail WriteCause done))).0 e).1 in
    (leb-true done total (and_left (leb done total) (leb total words) h), leb-true total words (and_right (leb done total) (leb total words) h))

-- a step that answers with a success has passed the check of its progress
pub accepted_progress : (w : ℕ) (t plan : List ℕ) (given : Given) (done total : ℕ) (values : List ℕ) → step_answer w t plan given done total ≡ success values
    → progress_checks w t (length plan) done total ≡ Pass
accepted_progress w t plan given done total values e = pick (progress_checks w t (length plan) done total) refl
  where
    pick : (x : Check) → x ≡ progress_checks w t (length plan) done total → progress_checks w t (length plan) done total ≡ Pass
    pick Pass f = sym f
    pick (Fail cause spot) f =
        let told : refusal cause spot ≡ success values = (step_declined w t plan given done total f refl).0 ∙ e in
        absurd (true≢false (ap (λ (t : Told). eqb t.number 0) (sym told) ∙ cause_not_zero cause))

-- an answer tells whether the step writes, and what its checks have then shown: of an answer that tells the same as the step's
pub answer_tells : (w : ℕ) (t plan : List ℕ) (given : Given) (done total : ℕ) {a b : Result (Option StepInfo) Refusal} → a ≡ b → step_told a ≡ step_answer w t plan given done total
    → StepTells w t plan given done total b
unfolding step_writes
answer_tells w t plan given done total {a} {b} e f =
    let end = ends (progress_checks w t (length plan) done total) refl in
    subst (StepTells w t plan given done total) (step_told_once end.0 b (end.1 ∙ (sym f ∙ ap step_told e))) end.2
  where
    End : Type 0
    End = (x : Result (Option StepInfo) Refusal) × (step_told x ≡ step_answer w t plan given done total) × StepTells w t plan given done total x

    next : progress_checks w t (length plan) done total ≡ Pass → done ≢ total
        → (y : Check) → y ≡ write_checks w t given (get_or plan done 0) done → End
    next p d Pass h =
        let r = step_wrote w t plan given done total (sym p) refl d h refl in
        let fit = checked_write w t given (get_or plan done 0) done (sym h) in
        let inside = progress_within w t (length plan) done total p in (
          Ok (Some (record { done = done + 1 })),
          r.0,
          record {
            progress = p;
            more = omega (arith, inside.0, d);
            within = inside.1;
            sound = fit.0;
            fits = fit.1;
            writes = rw (p, ne_eqb done total d, ← h);
            made = r.1;
          },
        )
    next p d (Fail cause spot) h =
        let r = step_unfit w t plan given done total (sym p) refl d h refl in (Err (record { cause = cause; spot = spot }), r.0, r.1)

    passing : progress_checks w t (length plan) done total ≡ Pass → (eqb done total ≡ true) ⊎ (eqb done total ≡ false) → End
    passing p (inl d) = let r = step_finished w t plan given done total (sym p) refl (eqb-true done total d) in (Ok None, r.0, r.1)
    passing p (inr d) = next p (eqb-false done total d) (write_checks w t given (get_or plan done 0) done) refl

    ends : (x : Check) → x ≡ progress_checks w t (length plan) done total → End
    ends Pass h = passing (sym h) (decided (eqb done total))
    ends (Fail cause spot) h = let r = step_declined w t plan given done total h refl in (Err (record { cause = cause; spot = spot }), r.0, r.1)

-- a step that does not write answers the same again, and leaves the state as it is
pub step_still : (w : ℕ) (t plan : List ℕ) (given : Given) (done total : ℕ) → step_writes w t plan given done total ≡ false
    → (step_table w t plan given done total ≡ t) × (step_done w t plan given done total ≡ done)
unfolding step_table step_done
step_still w t plan given done total e = (rw e, rw e)

-- the writes done tell whether it wrote
pub step_moved : (w : ℕ) (t plan : List ℕ) (given : Given) (done total next : ℕ) → next ≡ step_done w t plan given done total
    → ((done < next) → (step_writes w t plan given done total ≡ true) × (next ≡ done + 1)) × ((next ≤ done) → step_writes w t plan given done total ≡ false)
unfolding step_done
step_moved w t plan given done total next e = pick (decided (step_writes w t plan given done total))
  where
    pick : (step_writes w t plan given done total ≡ true) ⊎ (step_writes w t plan given done total ≡ false)
        → ((done < next) → (step_writes w t plan given done total ≡ true) × (next ≡ done + 1)) × ((next ≤ done) → step_writes w t plan given done total ≡ false)
    pick (inl f) =
        let more : next ≡ done + 1 = e ∙ ap (λ (x : Bool). cond x (done + 1) done) f in
        (λ l. (f, more), λ l. absurd (omega arith))
    pick (inr f) =
        let same : next ≡ done = e ∙ ap (λ (x : Bool). cond x (done + 1) done) f in
        (λ l. absurd (omega arith), λ l. f)

-- the call on a rule as it is lent, with its edition: its check of the width and of the rule's words, and behind that the step
module _ (w e : ℕ) (t plan rule : List ℕ) (done total : ℕ) where
  -- at a width that there is, with a rule of its words, the call ends as the step of the rule does
  pub call_known : Width w → length rule ≡ record_words w
      → StepEnds w t plan (lent_rule w e rule) done total
      (step_call w e t plan rule done total) (step_call_table w e t plan rule done total) (step_call_done w e t plan rule done total)
  call_known known size =
      let pass = (rule_law w (length rule)).1 (known, size) in (
        ap (λ (z : Check). unless z (step_answer w t plan (lent_rule w e rule) done total)) pass,
        ap (λ (z : Check). leaves z (step_table w t plan (lent_rule w e rule) done total) t) pass,
        ap (λ (z : Check). leaves z (step_done w t plan (lent_rule w e rule) done total) done) pass,
      )

  -- its answer tells the writes done after it
  pub call_done_told : done_told (step_call w e t plan rule done total) done ≡ step_call_done w e t plan rule done total
  call_done_told = turn (check_rule w (length rule))
    where
      turn : (x : Check)
          → done_told (unless x (step_answer w t plan (lent_rule w e rule) done total)) done ≡ leaves x (step_done w t plan (lent_rule w e rule) done total) done
      turn Pass = done_told_lem w t plan (lent_rule w e rule) done total
      turn (Fail cause spot) = done_refused cause spot done
