-- Which indices are reached, from those where a start is, over edges: in words, and found in one pass where every edge leads to a higher index.
use Rattle.std.specs.Prelude.{◌≡◌, Bool, true, cond, ◌||◌, List, [], ◌∷◌, ◌++◌, ℕ, zero, suc, ◌<◌, length, get_or}
use Rattle.search.specs.Search.{any}

-- an index below n is reached directly, or through one that is reached; which way the edges lead does not matter
pub data Reached (edge : ℕ → ℕ → Bool) (start : ℕ → Bool) (n : ℕ) : ℕ → Type 0 where
  directly : (y : ℕ) → y < n → start y ≡ true → Reached edge start n y
  through : (x y : ℕ) → Reached edge start n x → y < n → edge x y ≡ true → Reached edge start n y

-- an edge leads to y from one of the indices listed
unfoldable pub leads_to : (ℕ → ℕ → Bool) → List ℕ → ℕ → Bool
leads_to edge from y = any (λ k. edge (get_or from k 0) y) (length from)

-- the indices below n that are reached over lower ones, in rising order: one pass
unfoldable pub reached_below : (ℕ → ℕ → Bool) → (ℕ → Bool) → ℕ → List ℕ
reached_below edge start zero = []
reached_below edge start (suc y) =
    let before = reached_below edge start y in
    cond (start y || leads_to edge before y) (before ++ (y ∷ [])) before
