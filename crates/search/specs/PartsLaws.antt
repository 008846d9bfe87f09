-- Laws on searches in parts: indices asked one by one from a start on, or four together.
use Rattle.std.specs.Prelude.{◌≡◌, refl, Bool, true, false, ◌||◌, ℕ, suc, ◌+◌, ◌-◌, ◌≤◌, ◌<◌}
use Rattle.std.proofs.Common.{ap, ◌∙◌, true≢false, add-one, arith}
use Rattle.std.proofs.Math.Decide.{ℕ_discrete, dec_lt}
use Rattle.search.specs.Search.{least, NoneFrom}

-- a search counted up: the test holds at this index, fails at it, or no index is left
pub least_at_start : (p : ℕ → Bool) (to i : ℕ) → i < to → p i ≡ true → least p (to - i) i ≡ i
unfolding least
least_at_start p to i h t = let e : to - i ≡ suc (to - suc i) = omega arith in rw (e, t)

pub least_further : (p : ℕ → Bool) (to i : ℕ) → i < to → p i ≡ false → least p (to - i) i ≡ least p (to - (i + 1)) (i + 1)
unfolding least
least_further p to i h t = let e : to - i ≡ suc (to - suc i) = omega arith in rw (e, t, add-one)

pub least_over : (p : ℕ → Bool) (to i : ℕ) → to ≤ i → least p (to - i) i ≡ i
unfolding least
least_over p to i h = let e : to - i ≡ 0 = omega arith in rw e

-- four indices asked together, none of which passes
or_left : (a b : Bool) → a || b ≡ false → a ≡ false
or_left true b e = e
or_left false b e = refl

or_right : (a b : Bool) → a || b ≡ false → b ≡ false
or_right true b e = absurd (true≢false e)
or_right false b e = e

pub none_from_four : (p : ℕ → Bool) (from n i : ℕ) → NoneFrom p from n i → i + 4 ≤ n → p i || p (i + 1) || p (i + 2) || p (i + 3) ≡ false → NoneFrom p from n (i + 4)
none_from_four p from n i inv h e = (omega (arith, inv.0), h, λ k l r. pick k l r (dec_lt k i) (ℕ_discrete k i) (ℕ_discrete k (i + 1)) (ℕ_discrete k (i + 2)))
  where
    three : p i || p (i + 1) || p (i + 2) ≡ false
    three = or_left (p i || p (i + 1) || p (i + 2)) (p (i + 3)) e

    two : p i || p (i + 1) ≡ false
    two = or_left (p i || p (i + 1)) (p (i + 2)) three

    pick : (k : ℕ) → from ≤ k → k < i + 4 → Dec (k < i) → Dec (k ≡ i) → Dec (k ≡ i + 1) → Dec (k ≡ i + 2) → p k ≡ false
    pick k l r (yes a) b c d = inv.2 k l a
    pick k l r (no a) (yes b) c d = ap p b ∙ or_left (p i) (p (i + 1)) two
    pick k l r (no a) (no b) (yes c) d = ap p c ∙ or_right (p i) (p (i + 1)) two
    pick k l r (no a) (no b) (no c) (yes d) = ap p d ∙ or_right (p i || p (i + 1)) (p (i + 2)) three
    pick k l r (no a) (no b) (no c) (no d) =
        let at : k ≡ i + 3 = omega arith in ap p at ∙ or_right (p i || p (i + 1) || p (i + 2)) (p (i + 3)) e
