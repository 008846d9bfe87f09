-- A plan carried out call by call: the table and the writes done after each call of the step, and each call's answer.
-- For any table, plan, rule and edition; what they come to for a plan that was drawn for the table is demand 2.
use Rattle.std.specs.Prelude.{◌≡◌, List, ℕ, zero, suc, ◌≤◌, length, take}
use Rattle.records.specs.Checks.{Told}
use Rattle.records.specs.Editions.{Given}
use Rattle.carrying.specs.Carrying.{step_answer, step_table, step_done}

-- the table and the writes done so far
pub record State : Type 0 where
  pub table : List ℕ
  pub done : ℕ

-- with the same plan, rule, edition and writes in all each call takes the state that the call before left
abbrev pub next_state : ℕ → List ℕ → Given → ℕ → State → State
next_state w plan given total s = record {
  table = step_table w s.table plan given s.done total;
  done = step_done w s.table plan given s.done total;
}

-- the state after so many calls, from the plan's start
abbrev pub after_calls : ℕ → List ℕ → List ℕ → Given → ℕ → ℕ → State
after_calls w t plan given total zero = record { table = t; done = 0 }
after_calls w t plan given total (suc calls) = next_state w plan given total (after_calls w t plan given total calls)

-- what the call after so many answers
abbrev pub call_answer : ℕ → List ℕ → List ℕ → Given → ℕ → ℕ → Told
call_answer w t plan given total calls =
    step_answer w (after_calls w t plan given total calls).table plan given (after_calls w t plan given total calls).done total

-- What a caller may lend of a plan buffer: a slice that begins with the words counted, and has at least as many. So the count's words, the
-- whole buffer, or any number between.
pub record Lent (plan : List ℕ) (count : ℕ) (lent : List ℕ) : Type 0 where
  pub room : count ≤ length lent
  pub begins : take count lent ≡ take count plan
