-- A plan carried out through a lent progress record: the result of the call, and what it leaves.
-- The answer, the table and the writes done are the step's, at the width w and with the edition e that the call names.
use Rattle.std.specs.Prelude.{◌≡◌, List, ℕ}
use Rattle.carrying.specs.Carrying.{step_call, step_call_table, step_call_done}
use Rattle.marshalling.specs.Carried.{carry_result}
use Rattle.tcam.specs.declared.carry.Progress.{Progress}

-- What carrying out leaves: its result, the table and the progress record, before and after.
pub record CarryLeft (w e : ℕ) (t plan rule : List ℕ) (progress : Progress) (result : ℕ) (after : List ℕ) (progress' : Progress) : Type 0 where
  pub told : result ≡ carry_result (step_call w e t plan rule progress.done progress.total)
  pub table : after ≡ step_call_table w e t plan rule progress.done progress.total
  pub advanced : progress'.done ≡ step_call_done w e t plan rule progress.done progress.total
  pub in_all : progress'.total ≡ progress.total
