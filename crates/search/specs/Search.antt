-- Searches over indices: does a test hold everywhere, somewhere, where first, where last.
-- "Lowest such slot" and "highest such slot" of document 01 are least and after_last.
use Rattle.std.specs.Prelude.{◌≡◌, Bool, true, false, cond, ◌&&◌, ◌||◌, ℕ, zero, suc, ◌-◌, ◌≤◌, ◌<◌, ltb}

-- the test holds at each index below n
unfoldable pub all : (ℕ → Bool) → ℕ → Bool
all p zero = true
all p (suc n) = all p n && p n

-- the test holds at some index below n
unfoldable pub any : (ℕ → Bool) → ℕ → Bool
any p zero = false
any p (suc n) = any p n || p n

-- of the k indices from i on, the first at which the test holds; i + k where there is none
unfoldable pub least : (ℕ → Bool) → ℕ → ℕ → ℕ
least p zero i = i
least p (suc k) i = cond (p i) i (least p k (suc i))

-- one past the last index below n at which the test holds; 0 where there is none
unfoldable pub after_last : (ℕ → Bool) → ℕ → ℕ
after_last p zero = zero
after_last p (suc n) = cond (p n) (suc n) (after_last p n)

-- the first index, of those from a start up to an end, at which the test holds; 65,535 where there is none
unfoldable pub first_from : (ℕ → Bool) → ℕ → ℕ → ℕ
first_from p from to = cond (ltb (least p (to - from) from) to) (least p (to - from) from) 65535

-- m is the first index from i on, below e, at which the test holds, or e where there is none
pub record Least (p : ℕ → Bool) (i e m : ℕ) : Type 0 where
  pub low : i ≤ m
  pub high : m ≤ e
  pub before : (j : ℕ) → i ≤ j → j < m → p j ≡ false
  pub hit : m < e → p m ≡ true

-- m is one past the last index below n at which the test holds, or 0 where there is none
pub record AfterLast (p : ℕ → Bool) (n m : ℕ) : Type 0 where
  pub high : m ≤ n
  pub after : (j : ℕ) → m ≤ j → j < n → p j ≡ false
  pub hit : (j : ℕ) → suc j ≡ m → p j ≡ true

-- the invariant of a search loop that counts up: the test has held nowhere from one index up to i
abbrev pub NoneFrom : (ℕ → Bool) → ℕ → ℕ → ℕ → Type 0
NoneFrom p from n i = (from ≤ i) × (i ≤ n) × ((k : ℕ) → from ≤ k → k < i → p k ≡ false)

-- the invariant of a search loop that counts down: the test has held nowhere from i on
abbrev pub NoneAbove : (ℕ → Bool) → ℕ → ℕ → Type 0
NoneAbove p n i = (i ≤ n) × ((k : ℕ) → i ≤ k → k < n → p k ≡ false)

-- the invariant of a loop that ends where a test fails: it has held below i
abbrev pub AllBelow : (ℕ → Bool) → ℕ → ℕ → Type 0
AllBelow p n i = (i ≤ n) × ((k : ℕ) → k < i → p k ≡ true)
