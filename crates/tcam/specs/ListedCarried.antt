-- A plan carried out through a lent progress record with a neighbour list lent (document 02, 2026-10): the result of the call, and what it leaves.
use Rattle.std.specs.Prelude.{◌≡◌, Bool, List, ℕ, length}
use Rattle.listed_steps.specs.ListedSteps.{listed_step, listed_step_table, listed_step_done, listed_step_list, listed_step_cell}
use Rattle.marshalling.specs.Carried.{carry_result}
use Rattle.tcam.specs.declared.carry.Progress.{Progress}

-- What it leaves: its result, the table, the list, the progress record and the cell for whether the list was worked out afresh, before and after.
pub record ListedCarryLeft (w : ℕ) (u : Bool) (e : ℕ) (t plan rule list : List ℕ) (progress : Progress) (cell result : ℕ) (after list' : List ℕ) (progress' : Progress) (cell' : ℕ) : Type 0 where
  pub told : result ≡ carry_result (listed_step w e t plan rule (length list) progress.done progress.total)
  pub table : after ≡ listed_step_table w e t plan rule (length list) progress.done progress.total
  pub listed : list' ≡ listed_step_list w u e t plan rule list progress.done progress.total
  pub advanced : progress'.done ≡ listed_step_done w e t plan rule (length list) progress.done progress.total
  pub in_all : progress'.total ≡ progress.total
  pub refreshed : cell' ≡ listed_step_cell w u e t plan rule list progress.done progress.total cell
