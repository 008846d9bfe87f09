-- Laws on the spot of a step's refusal: it is a slot, the writes done, or 0.
use Rattle.std.specs.Prelude.{◌≡◌, refl, Bool, true, false, cond, ◌&&◌, List, [], ◌∷◌, ℕ, ◌+◌, ◌≤◌, ◌<◌, eqb, ltb, leb, length, get_or}
use Rattle.std.proofs.Common.{sym, subst, true≢false, arith, ltb-true}
use Rattle.search.specs.Search.{least}
use Rattle.layout.specs.Write.{Write, copy, put as put_in, clear}
use Rattle.plan_words.specs.PlanWords.{write_of}
use Rattle.records.specs.Record.{record_words, sound_rule}
use Rattle.records.specs.Order.{slots}
use Rattle.records.specs.Widths.{known, check_width, check_words, check_rule}
use Rattle.records.specs.Checks.{Told, success, refusal, unless, or_else, lowest, shaped, check_shape, unsound_at, check_records, slot_checks}
use Rattle.records.proofs.Laws.{cause_not_zero}
use Rattle.records.proofs.EntriesLaws.{shaped_slots}
use Rattle.records.specs.Editions.{Given, lent_rule, ranked, known_edition, check_sound, check_edition, check_given}
use Rattle.records.specs.declared.Cause.{Cause}
use Rattle.records.specs.declared.Cause.TheVariants.{Shape, Record, Rule as RuleCause, Write as WriteCause, Edition as EditionCause}
use Rattle.records.specs.Verdict.{Check}
use Rattle.records.specs.Verdict.{Pass, Fail}
use Rattle.carrying.specs.Carrying.{progress_checks, put_checks, fits_carried, write_checks, step_answer, step_call}

-- the spot is below n, of a check that fails and of a refusal that is told
abbrev Below : ℕ → Check → Type 0
Below n Pass = Unit {0}
Below n (Fail cause spot) = spot < n

abbrev ToldBelow : ℕ → Told → Type 0
ToldBelow n told = eqb told.number 0 ≡ false → get_or told.values 0 0 < n

cond_below : (n : ℕ) (b : Bool) (cause : Cause) (spot : ℕ) → spot < n → Below n (cond b Pass (Fail cause spot))
cond_below n true cause spot h = tt
cond_below n false cause spot h = h

or_else_below : (n : ℕ) (x y : Check) → Below n x → (x ≡ Pass → Below n y) → Below n (or_else x y)
or_else_below n Pass y a b = b refl
or_else_below n (Fail cause spot) y a b = a

lowest_below : (n : ℕ) (cause : Cause) (p : ℕ → Bool) (m : ℕ) → m ≤ n → Below n (lowest cause p m)
unfolding lowest
lowest_below n cause p m h = pick (ltb (least p m 0) m) refl
  where
    pick : (b : Bool) → ltb (least p m 0) m ≡ b → Below n (cond b (Fail cause (least p m 0)) Pass)
    pick true e = omega (arith, ltb-true (least p m 0) m e)
    pick false e = tt

unless_below : (n : ℕ) (x : Check) (told : Told) → Below n x → ToldBelow n told → ToldBelow n (unless x told)
unless_below n Pass told a b = b
unless_below n (Fail cause spot) told a b = λ e. a

-- below every number that is above the slots and the writes done
step_below : (w : ℕ) (t plan : List ℕ) (given : Given) (done total n : ℕ) → 1024 ≤ n → done < n → ToldBelow n (step_answer w t plan given done total)
unfolding step_answer progress_checks write_checks slot_checks check_shape check_records check_given check_sound check_edition
step_below w t plan given done total n large few =
    unless_below n (progress_checks w t (length plan) done total) _ progress (finished (eqb done total))
  where
    progress : Below n (progress_checks w t (length plan) done total)
    progress =
        or_else_below n (slot_checks w t) (cond (leb done total && leb total (length plan)) Pass (Fail WriteCause done))
        (or_else_below n (check_shape w t) (check_records w t) (cond_below n (shaped w t) Shape 0 (omega arith))
        (λ s. lowest_below n Record (unsound_at w t) (slots w t) (omega (arith, (shaped_slots w t s).1))))
        (λ s. cond_below n (leb done total && leb total (length plan)) WriteCause done few)

    put : (x : Write) → Below n (put_checks w given x)
    put (copy from to) = tt
    put (put_in to) =
        or_else_below n (check_sound w given.rule) (check_edition given.edition) (cond_below n (sound_rule w given.rule) RuleCause 0 (omega arith))
        (λ s. cond_below n (known_edition given.edition) EditionCause 0 (omega arith))
    put (clear to) = tt

    write : Below n (write_checks w t given (get_or plan done 0) done)
    write =
        or_else_below n (put_checks w given (write_of (get_or plan done 0)))
        (cond (fits_carried w t (ranked w given) (write_of (get_or plan done 0))) Pass (Fail WriteCause done))
        (put (write_of (get_or plan done 0)))
        (λ s. cond_below n (fits_carried w t (ranked w given) (write_of (get_or plan done 0))) WriteCause done few)

    finished : (b : Bool) → ToldBelow n (cond b (success []) (unless (write_checks w t given (get_or plan done 0) done) (success ((done + 1) ∷ []))))
    finished true = λ f. absurd (true≢false f)
    finished false = unless_below n (write_checks w t given (get_or plan done 0) done) (success ((done + 1) ∷ [])) write (λ f. absurd (true≢false f))

-- so is the spot of a call's refusal: that of its width and its rule's words is 0
pub call_spot : (w e : ℕ) (t plan rule : List ℕ) (done total n : ℕ) → 1024 ≤ n → done < n → (cause : Cause) (spot : ℕ)
    → refusal cause spot ≡ step_call w e t plan rule done total → spot < n
unfolding check_rule check_width check_words
call_spot w e t plan rule done total n large few cause spot f =
    subst (ToldBelow n) (sym f) (unless_below n (check_rule w (length rule)) _ lent (step_below w t plan (lent_rule w e rule) done total n large few))
    (cause_not_zero cause)
  where
    lent : Below n (check_rule w (length rule))
    lent =
        or_else_below n (check_width w) (check_words (length rule) (record_words w)) (cond_below n (known w) Shape 0 (omega arith))
        (λ s. cond_below n (eqb (length rule) (record_words w)) Shape 0 (omega arith))
