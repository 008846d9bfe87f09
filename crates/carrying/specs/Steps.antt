-- How a step ends: its answer, the table and the writes done afterwards, as one statement; and what its answer tells of the rest.
use Rattle.std.specs.Prelude.{◌≡◌, true, List, ℕ, ◌≤◌, ◌<◌, length, get_or, Option, Some, None, Result, Ok, Err}
use Rattle.plan_words.specs.PlanWords.{write_of}
use Rattle.records.specs.Checks.{Told}
use Rattle.records.specs.Writes.{apply_word}
use Rattle.records.specs.Editions.{Given, ranked}
use Rattle.records.specs.Verdict.{Pass}
use Rattle.records.specs.declared.Refusal.{Refusal}
use Rattle.carrying.specs.declared.StepInfo.{StepInfo}
use Rattle.carrying.specs.Carrying.{progress_checks, put_checks, fits_carried, step_answer, step_writes, step_table, step_done}

-- how a step ends: the answer, the table and the writes done afterwards
abbrev pub StepEnds : ℕ → List ℕ → List ℕ → Given → ℕ → ℕ → Told → List ℕ → ℕ → Type 0
StepEnds w t plan given done total told after next =
    (told ≡ step_answer w t plan given done total) × (after ≡ step_table w t plan given done total) × (next ≡ step_done w t plan given done total)

-- a step that writes: what its checks have shown of the next write, and the table with that write made
pub record Writes (w : ℕ) (t plan : List ℕ) (given : Given) (done total : ℕ) : Type 0 where
  pub progress : progress_checks w t (length plan) done total ≡ Pass
  pub more : done < total
  pub within : total ≤ length plan
  pub sound : put_checks w given (write_of (get_or plan done 0)) ≡ Pass
  pub fits : fits_carried w t (ranked w given) (write_of (get_or plan done 0)) ≡ true
  pub writes : step_writes w t plan given done total ≡ true
  pub made : apply_word w t (ranked w given) (get_or plan done 0) ≡ step_table w t plan given done total

-- what an answer tells: that the step writes, or that the table is as it was
abbrev pub StepTells : ℕ → List ℕ → List ℕ → Given → ℕ → ℕ → Result (Option StepInfo) Refusal → Type 0
StepTells w t plan given done total (Ok (Some info)) = Writes w t plan given done total
StepTells w t plan given done total (Ok None) = t ≡ step_table w t plan given done total
StepTells w t plan given done total (Err refused) = t ≡ step_table w t plan given done total
