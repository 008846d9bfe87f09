-- Document 01, "Carrying out": what a step answers, and the table and the writes done after it, for every table, plan, rule with its edition, and progress.
-- The step's contract is an equation with these definitions, at the width that the call names.
use Rattle.std.specs.Prelude.{Bool, true, false, not, cond, ◌&&◌, ◌||◌, List, [], ◌∷◌, ℕ, ◌+◌, eqb, ltb, leb, length, get_or, Option, Some, None, Result}
use Rattle.layout.specs.Write.{Write, copy, put, clear}
use Rattle.plan_words.specs.PlanWords.{write_of}
use Rattle.records.specs.Record.{word as word_at, slot_words, record_of}
use Rattle.records.specs.Order.{slots, equal_rule}
use Rattle.records.specs.Checks.{Told, success, answer_told, unless, passes, or_else, slot_checks}
use Rattle.records.specs.Widths.{check_rule, leaves}
use Rattle.records.specs.Writes.{fits_write, apply_word}
use Rattle.records.specs.Editions.{Given, lent_rule, ranked, check_given}
use Rattle.records.specs.declared.Rule.{Rule}
use Rattle.records.specs.declared.Cause.TheVariants.{Write as WriteCause}
use Rattle.records.specs.Verdict.{Check}
use Rattle.records.specs.Verdict.{Pass, Fail}
use Rattle.records.specs.declared.Refusal.{Refusal}
use Rattle.carrying.specs.declared.StepInfo.{StepInfo}

-- document 01's number and values for each case of a step's answer
abbrev pub step_values : Option StepInfo → List ℕ
step_values (Some info) = info.done ∷ []
step_values None = []

abbrev pub step_told : Result (Option StepInfo) Refusal → Told
step_told answer = answer_told step_values answer

-- the writes done after an answer: those that a write tells, or as many as before
abbrev pub done_told : Told → ℕ → ℕ
done_told told before = cond (eqb told.number 0) (get_or told.values 0 before) before

-- 1, 2; then 12 if done > in all or in all > the plan's words
unfoldable pub progress_checks : ℕ → List ℕ → ℕ → ℕ → ℕ → Check
progress_checks w t words done total = or_else (slot_checks w t) (cond (leb done total && leb total words) Pass (Fail WriteCause done))

-- 5 and 18 of a rule that is put in; other writes look at no rule and no edition
abbrev pub put_checks : ℕ → Given → Write → Check
put_checks w given (copy from to) = Pass
put_checks w given (put to) = check_given w given
put_checks w given (clear to) = Pass

-- document 02, 2026-03: slot `to` holds a rule of the same value, mask and rank as the one that is put in
unfoldable pub over_equal : ℕ → List ℕ → Rule → ℕ → Bool
over_equal w t rule to = ltb to (slots w t) && equal_rule w (slot_words w t to) (word_at (record_of w rule))

-- when a write fits: as document 01 has it, and a put-in also over an equal rule. The rule has its rank
abbrev pub fits_carried : ℕ → List ℕ → Rule → Write → Bool
fits_carried w t rule (copy from to) = fits_write w t (copy from to)
fits_carried w t rule (put to) = fits_write w t (put to) || over_equal w t rule to
fits_carried w t rule (clear to) = fits_write w t (clear to)

-- the same in three steps, as the code has it: what a rule is taken from holds one; no room is needed; or there is room
abbrev pub takes_rule : ℕ → List ℕ → Write → Bool
takes_rule w t (copy from to) = not (eqb from to) && fits_write w t (clear from)
takes_rule w t (put to) = true
takes_rule w t (clear to) = fits_write w t (clear to)

abbrev pub needs_no_room : ℕ → List ℕ → Rule → Write → Bool
needs_no_room w t rule (copy from to) = false
needs_no_room w t rule (put to) = over_equal w t rule to
needs_no_room w t rule (clear to) = true

-- the slot that a write goes to
abbrev pub written_slot : Write → ℕ
written_slot (copy from to) = to
written_slot (put to) = to
written_slot (clear to) = to

-- the next write: 5 for an unsound rule and 18 for another edition where a rule is put in; else 12 unless it fits
unfoldable pub write_checks : ℕ → List ℕ → Given → ℕ → ℕ → Check
write_checks w t given word done = or_else (put_checks w given (write_of word)) (cond (fits_carried w t (ranked w given) (write_of word)) Pass (Fail WriteCause done))

-- the answer: a refusal; "finished", if done = in all; else the writes done after one more
unfoldable pub step_answer : ℕ → List ℕ → List ℕ → Given → ℕ → ℕ → Told
step_answer w t plan given done total =
    unless (progress_checks w t (length plan) done total)
    (cond (eqb done total) (success []) (unless (write_checks w t given (get_or plan done 0) done) (success ((done + 1) ∷ []))))

-- the step writes: it is neither refused nor finished
unfoldable pub step_writes : ℕ → List ℕ → List ℕ → Given → ℕ → ℕ → Bool
step_writes w t plan given done total =
    passes (progress_checks w t (length plan) done total) && (not (eqb done total) && passes (write_checks w t given (get_or plan done 0) done))

-- the table afterwards: with exactly that one write made, a rule put in with its rank, or as it was
unfoldable pub step_table : ℕ → List ℕ → List ℕ → Given → ℕ → ℕ → List ℕ
step_table w t plan given done total = cond (step_writes w t plan given done total) (apply_word w t (ranked w given) (get_or plan done 0)) t

-- the writes done afterwards: one more, or as many as before
unfoldable pub step_done : ℕ → List ℕ → List ℕ → Given → ℕ → ℕ → ℕ
step_done w t plan given done total = cond (step_writes w t plan given done total) (done + 1) done

-- document 02: the call, on a rule as it is lent, a record, with its edition e; another width or another number of words is 1, and changes nothing
abbrev pub step_call : ℕ → ℕ → List ℕ → List ℕ → List ℕ → ℕ → ℕ → Told
step_call w e t plan rule done total = unless (check_rule w (length rule)) (step_answer w t plan (lent_rule w e rule) done total)

abbrev pub step_call_table : ℕ → ℕ → List ℕ → List ℕ → List ℕ → ℕ → ℕ → List ℕ
step_call_table w e t plan rule done total = leaves (check_rule w (length rule)) (step_table w t plan (lent_rule w e rule) done total) t

abbrev pub step_call_done : ℕ → ℕ → List ℕ → List ℕ → List ℕ → ℕ → ℕ → ℕ
step_call_done w e t plan rule done total = leaves (check_rule w (length rule)) (step_done w t plan (lent_rule w e rule) done total) done
