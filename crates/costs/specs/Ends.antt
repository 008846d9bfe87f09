-- The ends of a layout's windows, as numbers by position.
-- Going up the layout is the reversed one and the relation swapped.
use Rattle.std.specs.Prelude.{◌≡◌, Bool, cond, List, ℕ, ◌<◌, length, get_or}
use Rattle.layout.specs.Cost.{window_end}

-- the ends of a layout's windows, 0 where a position is empty
abbrev pub Ends : {S : Type 0} → S → (S → Bool) → (S → S → Bool) → List S → List ℕ → Type 0
Ends empty occupied misplaced t ends =
    (p : ℕ) → p < length t → get_or ends p 0 ≡ cond (occupied (get_or t p empty)) (window_end empty misplaced t p) 0
