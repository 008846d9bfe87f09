-- The least of the numbers at a stretch of indices, and the lowest_at or highest_at index at which it stands.
-- Costs are compared with these; a bound stands for "none", so that an infinite cost is a number at or above it.
use Rattle.std.specs.Prelude.{◌≡◌, ℕ, zero, suc, ◌+◌, ◌-◌, ◌≤◌, ◌<◌, min, eqb}
use Rattle.search.specs.Search.{least, after_last}

-- the least of top and the values of c at the k indices from i on
unfoldable pub minimum : (ℕ → ℕ) → ℕ → ℕ → ℕ → ℕ
minimum c top zero i = top
minimum c top (suc k) i = min (c i) (minimum c top k (suc i))

-- the lowest_at of those indices at which c has that value
unfoldable pub lowest_at : (ℕ → ℕ) → ℕ → ℕ → ℕ → ℕ
lowest_at c top k i = least (λ j. eqb (c j) (minimum c top k i)) k i

-- the highest_at of them
unfoldable pub highest_at : (ℕ → ℕ) → ℕ → ℕ → ℕ → ℕ
highest_at c top k i = after_last (λ j. eqb (c j) (minimum c top k i)) (i + k) - 1

-- where the least is below top, it stands at an index j, and every value that comes before j, along a direction, is greater
pub record LeastAt (toward : ℕ → ℕ → Type 0) (c : ℕ → ℕ) (i e m j : ℕ) : Type 0 where
  pub from : i ≤ j
  pub below : j < e
  pub value : c j ≡ m
  pub tie : (y : ℕ) → i ≤ y → y < e → toward y j → m < c y
