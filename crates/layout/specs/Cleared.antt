-- What is promised of a clearing's plan: each write fits, each layout on the way is in order and holds what was held, and the last has each entry once.
use Rattle.std.specs.Prelude.{◌≡◌, Bool, List, ℕ, ◌≤◌, ◌<◌, length, get_or, take}
use Rattle.layout.specs.Held.{Unique}
use Rattle.layout.specs.Write.{Write, put, clear, carried, Fits}
use Rattle.layout.specs.Valid.{Between}

-- whatever rule is lent with it, since none of its writes is a put-in
pub record Cleared {S : Type 0} (empty : S) (occupied : S → Bool) (same misordered : S → S → Bool) (first : List S) (ws : List Write) : Type 0 where
  pub no_put : (k : ℕ) → k < length ws → (to : ℕ) → get_or ws k (clear 0) ≡ put to → ⊥
  pub fits : (lent : S) (k : ℕ) → k < length ws → Fits empty occupied same (carried empty lent first (take k ws)) (get_or ws k (clear 0))
  pub between : (lent : S) (k : ℕ) → k ≤ length ws → Between empty occupied same misordered first (carried empty lent first (take k ws))
  pub unique : (lent : S) → Unique empty same (carried empty lent first ws)
