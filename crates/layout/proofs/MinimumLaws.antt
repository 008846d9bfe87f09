-- Laws on the least of the numbers at a stretch of indices: it is attained, and lowest_at and highest_at are where it first and last is.
use Rattle.std.specs.Prelude.{◌≡◌, refl, ◌≢◌, false, ℕ, zero, suc, ◌+◌, ◌-◌, ◌≤◌, ◌<◌, min}
use Rattle.std.proofs.Common.{sym, ap, ap₂, ◌∙◌, true≢false, arith, eqb-true, eq-eqb}
use Rattle.std.proofs.Math.Decide.{ℕ_discrete, dec_le, dec_lt}
use Rattle.std.proofs.Math.Dec.{eqb}
use Rattle.std.proofs.lemmas.Bool.{eqb-false}
use Rattle.search.specs.Search.{Least, AfterLast}
use Rattle.search.specs.SearchLaws.{least_law, after_last_law}
use Rattle.layout.specs.Order.{Higher, Lower}
use Rattle.layout.specs.Minimum.{minimum, LeastAt, lowest_at, highest_at}

-- m is the least of top and the values of c from i on, below e
pub record Minimum (c : ℕ → ℕ) (top i e m : ℕ) : Type 0 where
  pub low : (j : ℕ) → i ≤ j → j < e → m ≤ c j
  pub high : m ≤ top
  pub hit : m < top → (j : ℕ) × (i ≤ j) × (j < e) × (c j ≡ m)

pub minimum_law : (c : ℕ → ℕ) (top k i : ℕ) → Minimum c top i (i + k) (minimum c top k i)
unfolding minimum
minimum_law c top zero i = record { low = λ j l r. absurd (omega arith); high = omega arith; hit = λ l. absurd (omega arith) }
minimum_law c top (suc k) i = step (minimum c top k (suc i)) (minimum_law c top k (suc i))
  where
    step : (m : ℕ) → Minimum c top (suc i) (suc i + k) m → Minimum c top i (i + suc k) (min (c i) m)
    step m r = record { low = λ j l u. from j l u (ℕ_discrete j i); high = omega (arith, r.high); hit = λ l. at l (dec_le (c i) m) }
      where
        from : (j : ℕ) → i ≤ j → j < i + suc k → Dec (j ≡ i) → min (c i) m ≤ c j
        from j l u (yes e) = omega (arith, ap c e)
        from j l u (no e) = omega (arith, r.low j (omega arith) (omega arith))

        at : min (c i) m < top → Dec (c i ≤ m) → (j : ℕ) × (i ≤ j) × (j < i + suc k) × (c j ≡ min (c i) m)
        at l (yes h) = (i, omega arith, omega arith, omega arith)
        at l (no h) = let w = r.hit (omega arith) in (w.0, omega (arith, w.1), omega (arith, w.2), omega (arith, w.3))

pub minimum_unique : {c : ℕ → ℕ} {top i e m n : ℕ} → Minimum c top i e m → Minimum c top i e n → m ≡ n
minimum_unique {c} {top} {i} {e} {m} {n} a b = pick (dec_lt m n) (dec_lt n m)
  where
    less : {m n : ℕ} → Minimum c top i e m → Minimum c top i e n → m < n → ⊥
    less {m} {n} a b h = let w = a.hit (omega (arith, b.high)) in omega (arith, b.low w.0 w.1 w.2, w.3)

    pick : Dec (m < n) → Dec (n < m) → m ≡ n
    pick (yes h) d = absurd (less a b h)
    pick (no g) (yes h) = absurd (less b a h)
    pick (no g) (no h) = omega arith

-- it sees no more of c than its values at those indices
pub minimum_cong : {c d : ℕ → ℕ} (top k i : ℕ) → ((j : ℕ) → i ≤ j → j < i + k → c j ≡ d j) → minimum c top k i ≡ minimum d top k i
unfolding minimum
minimum_cong top zero i h = refl
minimum_cong top (suc k) i h = ap₂ min (h i (omega arith) (omega arith)) (minimum_cong top k (suc i) (λ j l r. h j (omega arith) (omega arith)))

-- indices may be counted from one further on
pub minimum_shift : (c : ℕ → ℕ) (top k i : ℕ) → minimum c top k (suc i) ≡ minimum (λ j. c (suc j)) top k i
unfolding minimum
minimum_shift c top zero i = refl
minimum_shift c top (suc k) i = ap (min (c (suc i))) (minimum_shift c top k (suc i))

module _ {c : ℕ → ℕ} {top i e m : ℕ} (minimal : Minimum c top i e m) (finite : m < top) where
  -- a value in the stretch that is not the least is greater
  greater : (y : ℕ) → i ≤ y → y < e → eqb (c y) m ≡ false → m < c y
  greater y l r n = let d : c y ≢ m = eqb-false (c y) m n in omega (arith, minimal.low y l r)

  lowest_of_lem : {j : ℕ} → Least (λ y. eqb (c y) m) i e j → LeastAt Higher c i e m j
  lowest_of_lem {j} l = record {
    from = l.low;
    below = below (dec_lt j e);
    value = eqb-true (c j) m (l.hit (below (dec_lt j e)));
    tie = λ y a r b. greater y a r (l.before y a b);
  }
    where
      below : Dec (j < e) → j < e
      below (yes h) = h
      below (no h) =
          let w = minimal.hit finite in
          absurd (true≢false (sym (eq-eqb (c w.0) m w.3) ∙ l.before w.0 w.1 (omega (arith, w.2))))

  highest_of_lem : {a : ℕ} → AfterLast (λ y. eqb (c y) m) e a → LeastAt Lower c i e m (a - 1)
  highest_of_lem {a} l = record {
    from = omega (arith, past (dec_lt i a));
    below = omega (arith, past (dec_lt i a), l.high);
    value = eqb-true (c (a - 1)) m (l.hit (a - 1) (omega (arith, past (dec_lt i a))));
    tie = λ y a r b. greater y a r (l.after y (omega arith) r);
  }
    where
      past : Dec (i < a) → i < a
      past (yes h) = h
      past (no h) =
          let w = minimal.hit finite in
          absurd (true≢false (sym (eq-eqb (c w.0) m w.3) ∙ l.after w.0 (omega (arith, w.1)) w.2))

module _ (c : ℕ → ℕ) (top k i : ℕ) (finite : minimum c top k i < top) where
  pub lowest_at_law : LeastAt Higher c i (i + k) (minimum c top k i) (lowest_at c top k i)
  unfolding lowest_at
  lowest_at_law = lowest_of_lem (minimum_law c top k i) finite (least_law (λ j. eqb (c j) (minimum c top k i)) k i)

  pub highest_at_law : LeastAt Lower c i (i + k) (minimum c top k i) (highest_at c top k i)
  unfolding highest_at
  highest_at_law = highest_of_lem (minimum_law c top k i) finite (after_last_law (λ j. eqb (c j) (minimum c top k i)) (i + k))
