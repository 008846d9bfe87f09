-- The indices at which a test holds, in rising order: a table's occupied slots, counted and taken in turn.
use Rattle.std.specs.Prelude.{Bool, cond, List, [], ◌∷◌, ◌++◌, ℕ, zero, suc, get_or}

-- the indices below n at which the test holds, in rising order
unfoldable pub indices : (ℕ → Bool) → ℕ → List ℕ
indices p zero = []
indices p (suc n) = indices p n ++ cond (p n) (n ∷ []) []

-- the k-th of them
abbrev pub index : (ℕ → Bool) → ℕ → ℕ → ℕ
index p n k = get_or (indices p n) k 0
