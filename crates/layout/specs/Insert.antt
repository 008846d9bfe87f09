-- What is promised of an insert's plan: it is valid at every prefix, and has the least count of document 01's class.
use Rattle.std.specs.Prelude.{◌≡◌, Bool, List, ℕ, suc, ◌≤◌, ◌<◌, length, get_or, take}
use Rattle.layout.specs.Write.{Write, clear, carried, Fits}
use Rattle.layout.specs.Class.{InClass}
use Rattle.layout.specs.Valid.{Between, Placed}
use Rattle.layout.specs.Plan.{Choice, writes}

-- what a plan promises: its count, each write in its turn, each layout between, and the last
pub record Valid {S : Type 0} (empty : S) (occupied : S → Bool) (same misordered : S → S → Bool) (first : List S) (new : S) (choice : Choice) : Type 0 where
  pub count : length (writes choice) ≡ suc choice.cost
  pub member : InClass empty occupied same misordered new first (writes choice)
  pub fits : (k : ℕ) → k < length (writes choice)
      → Fits empty occupied same (carried empty new first (take k (writes choice))) (get_or (writes choice) k (clear 0))
  pub between : (k : ℕ) → k < length (writes choice) → Between empty occupied same misordered first (carried empty new first (take k (writes choice)))
  pub placed : Placed empty occupied same misordered first new choice.slot (carried empty new first (writes choice))

-- a valid plan of at most N writes, and no sequence of the class has fewer
pub record LeastPlan {S : Type 0} (empty : S) (occupied : S → Bool) (same misordered : S → S → Bool) (first : List S) (new : S) (choice : Choice) : Type 0 where
  pub valid : Valid empty occupied same misordered first new choice
  pub short : length (writes choice) ≤ length first
  pub least : (ws : List Write) → InClass empty occupied same misordered new first ws → length (writes choice) ≤ length ws
