-- End theorems on plans carried out call by call: a state in which a step does not write stays, and of a plan only the words counted are read.
use Rattle.std.specs.Prelude.{◌≡◌, false, List, ℕ, zero, suc, ◌+◌, ◌≤◌, ◌<◌, length, get_or, take, drop}
use Rattle.std.proofs.Math.Path.{refl}
use Rattle.std.proofs.Common.{sym, ap, ◌∙◌, add-zero, add-suc, add-one, arith, length-take, take-append-drop, length-take-le}
use Rattle.std.proofs.Math.Decide.{dec_lt}
use Rattle.std.proofs.Math.ListN.{get_or-append}
use Rattle.std.proofs.lemmas.List.{take-append-le}
use borrow.Author.Tests.{le-leb}
use Rattle.records.specs.Checks.{Told}
use Rattle.records.specs.Editions.{Given}
use Rattle.records.specs.Verdict.{Check}
use Rattle.records.specs.Verdict.{Pass, Fail}
use Rattle.carrying.specs.Carrying.{progress_checks, step_answer, step_writes, step_table, step_done}
use Rattle.carrying.specs.Steps.{StepEnds}
use Rattle.carrying.proofs.StepsLaws.{step_still, step_declined, step_finished, progress_within}
use Rattle.carrying.specs.Calls.{State, next_state, after_calls, call_answer, Lent}

-- one call more
pub call_more : (w : ℕ) (t plan : List ℕ) (given : Given) (total calls : ℕ)
    → after_calls w t plan given total (calls + 1) ≡ next_state w plan given total (after_calls w t plan given total calls)
call_more w t plan given total calls = ap (after_calls w t plan given total) (add-one calls)

-- a state in which the step does not write stays, however often it is called
pub calls_still : (w : ℕ) (t plan : List ℕ) (given : Given) (total calls more : ℕ)
    → step_writes w (after_calls w t plan given total calls).table plan given (after_calls w t plan given total calls).done total ≡ false
    → after_calls w t plan given total (calls + more) ≡ after_calls w t plan given total calls
calls_still w t plan given total calls zero e = ap (after_calls w t plan given total) (add-zero calls)
calls_still w t plan given total calls (suc more) e =
    let s = after_calls w t plan given total calls in
    let still = step_still w s.table plan given s.done total e in
    ap (after_calls w t plan given total) (add-suc calls more)
    ∙ (ap (next_state w plan given total) (calls_still w t plan given total calls more e)
    ∙ (λ i. record { table = still.0 i; done = still.1 i }))

-- the first words of a plan buffer, at least as many as are counted, may be lent
pub lent_part : (plan : List ℕ) (count k : ℕ) → count ≤ length plan → count ≤ k → Lent plan count (take k plan)
lent_part plan count k room few = record {
  room = omega (arith, length-take k plan);
  begins = sym (ap (take count) (sym (take-append-drop k plan)) ∙ take-append-le count (take k plan) (drop k plan) (omega (arith, length-take k plan)));
}

-- the buffer itself may be lent
pub lent_whole : (plan : List ℕ) (count : ℕ) → count ≤ length plan → Lent plan count plan
lent_whole plan count room = record { room = room; begins = refl }

-- What a step does depends on the words counted alone: with a slice that may be lent, on every table and progress, it answers and leaves what it
-- does with the whole buffer.
module _ (w : ℕ) (plan lent : List ℕ) (given : Given) (total : ℕ) (is : Lent plan total lent) where
  long : total ≤ length plan
  long = omega (arith, length-take-le total lent is.room, ap length is.begins, length-take total plan)

  same_word : (k : ℕ) → k < total → get_or lent k 0 ≡ get_or plan k 0
  same_word k h = sym (front lent is.room) ∙ (ap (λ (ns : List ℕ). get_or ns k 0) is.begins ∙ front plan long)
    where
      front : (ns : List ℕ) → total ≤ length ns → get_or (take total ns) k 0 ≡ get_or ns k 0
      front ns l =
          sym (get_or-append (take total ns) (drop total ns) 0 k (omega (arith, length-take-le total ns l)))
          ∙ ap (λ (ms : List ℕ). get_or ms k 0) (take-append-drop total ns)

  same_progress : (t : List ℕ) (done : ℕ) → progress_checks w t (length lent) done total ≡ progress_checks w t (length plan) done total
  unfolding progress_checks
  same_progress t done = rw (le-leb total (length lent) is.room, le-leb total (length plan) long)

  pub step_lent : (t : List ℕ) (done : ℕ) → StepEnds w t plan given done total
      (step_answer w t lent given done total) (step_table w t lent given done total) (step_done w t lent given done total)
  unfolding step_answer step_table step_done step_writes
  step_lent t done = pick (dec_lt done total) (progress_checks w t (length plan) done total) refl
    where
      Ends : Type 0
      Ends = StepEnds w t plan given done total (step_answer w t lent given done total) (step_table w t lent given done total) (step_done w t lent given done total)

      join : {told : Told} {after : List ℕ} {next : ℕ} → StepEnds w t plan given done total told after next → StepEnds w t lent given done total told after next → Ends
      join a b = (sym b.0 ∙ a.0, sym b.1 ∙ a.1, sym b.2 ∙ a.2)

      pick : Dec (done < total) → (x : Check) → x ≡ progress_checks w t (length plan) done total → Ends
      pick (yes l) x e = let g = same_word done l in let h = same_progress t done in (rw (g, h), rw (g, h), rw (g, h))
      pick (no l) (Fail cause spot) e =
          join (step_declined w t plan given done total e refl) (step_declined w t lent given done total (e ∙ sym (same_progress t done)) refl)
      pick (no l) Pass e =
          let all : done ≡ total = omega (arith, (progress_within w t (length plan) done total (sym e)).0) in
          join (step_finished w t plan given done total e refl all) (step_finished w t lent given done total (e ∙ sym (same_progress t done)) refl all)

  -- so are all states and answers, call by call
  pub calls_lent : (t : List ℕ) (calls : ℕ) → after_calls w t lent given total calls ≡ after_calls w t plan given total calls
  calls_lent t zero = refl
  calls_lent t (suc calls) =
      let s = after_calls w t plan given total calls in
      let step = step_lent s.table s.done in
      ap (next_state w lent given total) (calls_lent t calls) ∙ (λ i. record { table = step.1 i; done = step.2 i })

  pub answer_lent : (t : List ℕ) (calls : ℕ) → call_answer w t lent given total calls ≡ call_answer w t plan given total calls
  answer_lent t calls =
      let s = after_calls w t plan given total calls in
      ap (λ (u : State). step_answer w u.table lent given u.done total) (calls_lent t calls) ∙ (step_lent s.table s.done).0
