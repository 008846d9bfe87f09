-- Laws on searches along a direction: what a write to one position changes in them, and that a slot's number is found by one.
use Rattle.std.specs.Prelude.{◌≡◌, Bool, true, cond, List, ltb}
use Rattle.std.proofs.Math.Path.{refl, sym, ap}
use Rattle.std.proofs.Common.{ap₂, ◌∙◌, lt-ltb, le-ltb}
use Rattle.std.proofs.Math.Bool.{false}
use Prim.Native.Nat.{ℕ, suc, ◌+◌, ◌-◌, ◌*◌, ◌≤◌, ◌<◌}
use Rattle.std.proofs.Math.Decide.{dec_lt}
use native.Mathlib.Omega.{arith}
use Rattle.search.specs.Search.{least, Least, after_last, first_from, NoneFrom}
use Rattle.search.specs.SearchLaws.{below_suc, least_law, least_unique, least_mirrored, after_last_law}
use Rattle.positions.specs.Positions.{slot_at}
use Rattle.records.specs.Order.{slots}
use Rattle.neighbour_lists.specs.Lists.{precedes_slot, next_dependant, last_preceding, last_below}
use Rattle.list_updates.specs.Updates.{place_along, bounded_by, number_along, found_from, nearest_from}

-- a slot's numbers stand in the list
pub place_below : (up : Bool) (n i : ℕ) → i < n → place_along up i < 2 * n
place_below true n i h = omega arith
place_below false n i h = omega arith

-- a search loop's invariant, one index further
pub none_from_more : (p : ℕ → Bool) (from n i : ℕ) → NoneFrom p from n i → i < n → p i ≡ false → NoneFrom p from n (i + 1)
none_from_more p from n i inv h f =
    (omega (arith, inv.0), omega arith, λ k l r. below_suc (λ (j : ℕ). from ≤ j → p j ≡ false) i (λ j b a. inv.2 j a b) (λ a. f) k (omega arith) l)

-- how a search along positions ends: at a position where the test holds, or past the last one
pub found_here : (n : ℕ) (up : Bool) (p : ℕ → Bool) (from i : ℕ) → NoneFrom p from n i → i < n → p i ≡ true → slot_at n up i ≡ found_from n up p from
unfolding found_from
found_here n up p from i inv h t =
    let is : least p (n - from) from ≡ i =
    least_unique (least_law p (n - from) from) (record { low = inv.0; high = omega arith; before = inv.2; hit = λ l. t }) in
    rw (is, lt-ltb i n h)

pub found_none : (n : ℕ) (up : Bool) (p : ℕ → Bool) (from i : ℕ) → NoneFrom p from n i → n ≤ i → 65535 ≡ found_from n up p from
unfolding found_from
found_none n up p from i inv h =
    let is : least p (n - from) from ≡ i =
    least_unique (least_law p (n - from) from) (record { low = inv.0; high = omega (arith, inv.1, inv.0); before = inv.2; hit = λ l. absurd (omega (arith, inv.0, inv.1)) }) in
    rw (is, le-ltb i n h)

-- A test that changed at index g alone: the first index from a start before g on, by the one of before.
module _ (p q : ℕ → Bool) (n from g : ℕ) (low : from ≤ g) (high : g < n) (same : (k : ℕ) → k < n → (k ≡ g → ⊥) → p k ≡ q k) where
  was : ℕ
  was = least p (n - from) from

  law : Least p from (from + (n - from)) was
  unfolding was
  law = least_law p (n - from) from

  -- it comes before g: it stays
  pub bound_stays : least p (n - from) from < g → least q (n - from) from ≡ least p (n - from) from
  unfolding was
  bound_stays l =
      least_unique (least_law q (n - from) from) (record {
        low = law.low;
        high = law.high;
        before = λ j a b. sym (same j (omega arith) (λ e. omega arith)) ∙ law.before j a b;
        hit = λ h. sym (same was (omega arith) (λ e. omega arith)) ∙ law.hit h;
      })

  -- it is g or comes after it, and the test holds there now
  pub bound_here : g ≤ least p (n - from) from → q g ≡ true → least q (n - from) from ≡ g
  unfolding was
  bound_here l t =
      least_unique (least_law q (n - from) from) (record {
        low = low;
        high = omega arith;
        before = λ j a b. sym (same j (omega arith) (λ e. omega arith)) ∙ law.before j a (omega arith);
        hit = λ h. t;
      })

  -- it does not hold there: the first is looked for after g ..
  pub bound_after : g ≤ least p (n - from) from → q g ≡ false → least q (n - from) from ≡ least q (n - suc g) (suc g)
  unfolding was
  bound_after l f =
      let rest = least_law q (n - suc g) (suc g) in
      let at = rest.low in
      let end = rest.high in
      least_unique (least_law q (n - from) from) (record {
        low = omega arith;
        high = omega arith;
        before = λ j a b. by j a b (dec_lt j (suc g));
        hit = λ h. rest.hit (omega arith);
      })
    where
      here : (j : ℕ) → j < suc g → from ≤ j → Dec (j < g) → q j ≡ false
      here j h a (yes b) = sym (same j (omega arith) (λ e. omega arith)) ∙ law.before j a (omega arith)
      here j h a (no b) = (let e : j ≡ g = omega arith in ap q e ∙ f)

      by : (j : ℕ) → from ≤ j → j < least q (n - suc g) (suc g) → Dec (j < suc g) → q j ≡ false
      by j a b (yes h) = here j h a (dec_lt j g)
      by j a b (no h) = (least_law q (n - suc g) (suc g)).before j (omega arith) b

  -- .. and is found already, where it came after g
  pub bound_past : g < least p (n - from) from → q g ≡ false → least q (n - from) from ≡ least p (n - from) from
  unfolding was
  bound_past l f =
      least_unique (least_law q (n - from) from) (record {
        low = law.low;
        high = law.high;
        before = λ j a b. by j a b (dec_lt j g) (dec_lt g j);
        hit = λ h. let end = law.high in sym (same was (omega arith) (λ e. omega arith)) ∙ law.hit h;
      })
    where
      by : (j : ℕ) → from ≤ j → j < least p (n - from) from → Dec (j < g) → Dec (g < j) → q j ≡ false
      by j a b (yes h) d = let end = law.high in sym (same j (omega arith) (λ e. omega arith)) ∙ law.before j a b
      by j a b (no h) (yes d) = let end = law.high in sym (same j (omega arith) (λ e. omega arith)) ∙ law.before j a b
      by j a b (no h) (no d) = (let e : j ≡ g = omega arith in ap q e ∙ f)

-- a slot's number is found from the next position on
module _ (w : ℕ) (u : Bool) (t : List ℕ) (i : ℕ) (h : i < slots w t) where
  found_down : number_along w u t false i ≡ nearest_from w u t false i (suc i)
  unfolding number_along bounded_by found_from next_dependant first_from
  found_down = refl

  found_up : number_along w u t true i ≡ nearest_from w u t true i (suc (slots w t - suc i))
  unfolding number_along bounded_by found_from last_preceding last_below
  found_up = pick (dec_lt 0 a)
    where
      n : ℕ
      n = slots w t

      a : ℕ
      a = after_last (λ (k : ℕ). precedes_slot w u t k i) i

      high : a ≤ i
      high = (after_last_law (λ (k : ℕ). precedes_slot w u t k i) i).high

      q : ℕ → Bool
      q p = precedes_slot w u t (n - suc p) i

      is : least q (n - suc (n - suc i)) (suc (n - suc i)) ≡ n - a
      is =
          let size : n - suc (n - suc i) ≡ i = omega arith in
          let start : suc (n - suc i) ≡ n - i = omega arith in
          ap₂ (least q) size start
          ∙ least_mirrored (λ (k : ℕ). precedes_slot w u t k i) q n i (omega arith)
          (λ k l. let e : n - suc (n - suc k) ≡ k = omega arith in ap (λ (m : ℕ). precedes_slot w u t m i) e)

      pick : Dec (0 < a) → cond (ltb 0 a) (a - 1) 65535
          ≡ cond (ltb (least q (n - suc (n - suc i)) (suc (n - suc i))) n) (n - suc (least q (n - suc (n - suc i)) (suc (n - suc i)))) 65535
      pick (yes l) = rw (is, lt-ltb 0 a l, lt-ltb (n - a) n (omega (arith, high))) (omega (arith, high))
      pick (no l) = rw (is, le-ltb 0 a (omega arith), le-ltb (n - a) n (omega arith))

pub number_found : (w : ℕ) (u : Bool) (t : List ℕ) (up : Bool) (i : ℕ) → i < slots w t
    → number_along w u t up i ≡ nearest_from w u t up i (suc (slot_at (slots w t) up i))
number_found w u t false i h = found_down w u t i h
number_found w u t true i h = found_up w u t i h
