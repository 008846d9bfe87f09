-- A step of a plan on its progress as numbers: the writes done after it, and its answer as one number.
-- The answer, the table and the writes done are the step's, at the width w and with the edition e that the call names.
use Rattle.std.specs.Prelude.{◌≡◌, cond, List, ℕ, ◌+◌, ◌*◌, ◌<◌, eqb, length, get_or, Option, Some, None, Result, Ok, Err}
use Rattle.records.specs.Checks.{Told}
use Rattle.carrying.specs.Carrying.{done_told, step_call, step_call_done}
use Rattle.listed_steps.specs.ListedSteps.{listed_step, listed_step_done}
use Rattle.records.specs.declared.Refusal.{Refusal}
use Rattle.carrying.specs.declared.StepInfo.{StepInfo}
use Rattle.marshalling.specs.declared.Carried.{Carried}

-- the number that tells a step's answer: 0 where a write is done, 2^32 − 1 for "finished", the success without values, and for a refusal
-- its number + its spot × 2^32; so that the lower half alone tells the three apart
abbrev pub carry_result : Told → ℕ
carry_result told =
    cond (eqb told.number 0) (cond (eqb (length told.values) 0) 4294967295 0) (told.number + get_or told.values 0 0 * 4294967296)

-- the writes done after a step, and its answer as a number
abbrev pub carried_step : ℕ → ℕ → List ℕ → List ℕ → List ℕ → ℕ → ℕ → Carried
carried_step w e t plan rule done total = record {
  done = step_call_done w e t plan rule done total;
  result = carry_result (step_call w e t plan rule done total);
}

-- the writes done after any answer, and the number that tells it
abbrev pub carried_told : Told → ℕ → Carried
carried_told told before = record { done = done_told told before; result = carry_result told }

-- a step with a neighbour list lent: the same of its answer, in which 1 by the list's length comes first
abbrev pub listed_carried_step : ℕ → ℕ → List ℕ → List ℕ → List ℕ → ℕ → ℕ → ℕ → Carried
listed_carried_step w e t plan rule numbers done total = record {
  done = listed_step_done w e t plan rule numbers done total;
  result = carry_result (listed_step w e t plan rule numbers done total);
}

-- a spot is a number of 32 bits
abbrev pub SpotFits : Result (Option StepInfo) Refusal → Type 0
SpotFits (Ok (Some info)) = Unit {0}
SpotFits (Ok None) = Unit {0}
SpotFits (Err refused) = refused.spot < 4294967296

-- two answers are the same case, with the same cause and spot
abbrev pub SameCase : Result (Option StepInfo) Refusal → Result (Option StepInfo) Refusal → Type 0
SameCase (Ok (Some info)) (Ok (Some other)) = Unit {0}
SameCase (Ok (Some info)) (Ok None) = ⊥
SameCase (Ok (Some info)) (Err refused) = ⊥
SameCase (Ok None) (Ok (Some other)) = ⊥
SameCase (Ok None) (Ok None) = Unit {0}
SameCase (Ok None) (Err refused) = ⊥
SameCase (Err refused) (Ok (Some other)) = ⊥
SameCase (Err refused) (Ok None) = ⊥
SameCase (Err refused) (Err other) = (refused.cause ≡ other.cause) × (refused.spot ≡ other.spot)
