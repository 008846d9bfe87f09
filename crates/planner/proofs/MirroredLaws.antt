-- Laws on the least number of a stretch, and where it stands, seen from the other end: index i is the index as far from the last one.
-- The highest_at index of least value seen from one end is the lowest_at seen from the other.
use Rattle.std.specs.Prelude.{◌≡◌, ℕ, ◌+◌, ◌-◌, ◌≤◌, ◌<◌}
use Rattle.std.proofs.Common.{ap, ◌∙◌, arith}
use Rattle.std.proofs.Math.Decide.{dec_lt}
use Rattle.layout.specs.Order.{Higher, Lower}
use Rattle.layout.specs.Minimum.{minimum, lowest_at, highest_at, LeastAt}
use Rattle.layout.specs.Mirror.{mirror}
use Rattle.layout.proofs.MinimumLaws.{Minimum, minimum_law, minimum_unique, lowest_at_law, highest_at_law}
use Rattle.layout.proofs.MirrorLaws.{mirror_twice}

-- of two indices of least value neither comes before the other
highest_unique : {c : ℕ → ℕ} {i e m j k : ℕ} → LeastAt Lower c i e m j → LeastAt Lower c i e m k → j ≡ k
highest_unique {c} {i} {e} {m} {j} {k} a b = pick (dec_lt j k) (dec_lt k j)
  where
    pick : Dec (j < k) → Dec (k < j) → j ≡ k
    pick (yes h) d = absurd (omega (arith, a.tie k b.from b.below h, b.value))
    pick (no g) (yes h) = absurd (omega (arith, b.tie j a.from a.below h, a.value))
    pick (no g) (no h) = omega arith

module _ (c : ℕ → ℕ) (n from to : ℕ) (h : to ≤ n) where
  -- the stretch's indices, counted from the other end
  abbrev count : ℕ
  count = (n - from) - (n - to)

  pub minimum_mirror : (top : ℕ) → minimum (λ i. c (mirror n i)) top (to - from) from ≡ minimum c top count (n - to)
  minimum_mirror top = minimum_unique (minimum_law (λ i. c (mirror n i)) top (to - from) from) (turned (minimum_law c top count (n - to)))
    where
      turned : {m : ℕ} → Minimum c top (n - to) (n - to + count) m → Minimum (λ i. c (mirror n i)) top from (from + (to - from)) m
      turned r = record {
        low = λ j l u. r.low (mirror n j) (omega arith) (omega arith);
        high = r.high;
        hit = λ f.
            let w = r.hit f in
            (mirror n w.0, omega (arith, w.2), omega (arith, w.1, w.2), ap c (mirror_twice n w.0 (omega (arith, w.2))) ∙ w.3);
      }

  pub highest_mirror : (top : ℕ) → minimum c top count (n - to) < top
      → mirror n (lowest_at c top count (n - to)) ≡ highest_at (λ i. c (mirror n i)) top (to - from) from
  highest_mirror top finite =
      highest_unique (turned (lowest_at_law c top count (n - to) finite))
      (rw (minimum_mirror top) at (highest_at_law (λ i. c (mirror n i)) top (to - from) from (rw (minimum_mirror top) finite)))
    where
      turned : {m j : ℕ} → LeastAt Higher c (n - to) (n - to + count) m j → LeastAt Lower (λ i. c (mirror n i)) from (from + (to - from)) m (mirror n j)
      turned {m} {j} r = record {
        from = omega (arith, r.below);
        below = omega (arith, r.from, r.below);
        value = ap c (mirror_twice n j (omega (arith, r.below))) ∙ r.value;
        tie = λ y a u b. r.tie (mirror n y) (omega arith) (omega arith) (omega (arith, r.below));
      }
