-- End theorems on costs: a window's ends, the equation that costs satisfy, and where the least after a slot stands.
use Rattle.std.specs.Prelude.{◌≡◌, true, false, cond, ◌↔◌, ◌⊎◌, get_or}
use Rattle.std.proofs.Common.{sym, ◌∙◌, true≢false, ⊎_elim}
use Rattle.std.proofs.Math.Path.{ap}
use Rattle.std.proofs.Math.Bool.{Bool}
use Rattle.std.proofs.Math.Logic.◌⊎◌.{inl, inr}
use mathlib.Core.List.{List, [], ◌∷◌}
use Prim.Native.Nat.{ℕ, zero, suc, ◌+◌, ◌-◌, ◌≤◌, ◌<◌}
use native.Mathlib.Omega.{arith}
use Rattle.std.proofs.Math.Decide.{dec_lt}
use Rattle.std.proofs.Math.ListN.{length}
use Rattle.search.specs.Search.{least, Least}
use Rattle.search.specs.SearchLaws.{least_law, least_shift, decided}
use Rattle.layout.specs.Order.{Higher}
use Rattle.layout.specs.Minimum.{minimum}
use Rattle.layout.specs.Cost.{InWindow, Costs, WindowOrPast, window_end, next_slot, slot_cost, costs}
use Rattle.layout.proofs.MinimumLaws.{Minimum, minimum_law, minimum_shift, lowest_at_law}

module _ {S : Type 0} (empty : S) (misplaced : S → S → Bool) where
  -- the slots from i + 1 up to the window's end are those of the window
  pub window_end_lem : (t : List S) (i j : ℕ) → InWindow empty Higher misplaced t i j ↔ ((i < j) × (j < window_end empty misplaced t i))
  unfolding window_end
  window_end_lem t i j = (forth, λ h. record { inside = omega (arith, h.1); after = h.0; between = λ y a u v. law.before y u (omega (arith, h.1)) })
    where
      test : ℕ → Bool
      test y = misplaced (get_or t y empty) (get_or t i empty)

      nearest : ℕ
      nearest = least test (length t - suc i) (suc i)

      law : Least test (suc i) (suc i + (length t - suc i)) nearest
      law = least_law test (length t - suc i) (suc i)

      forth : InWindow empty Higher misplaced t i j → (i < j) × (j < window_end empty misplaced t i)
      forth w = pick (dec_lt nearest j)
        where
          pick : Dec (nearest < j) → (i < j) × (j < window_end empty misplaced t i)
          pick (yes h) = absurd (true≢false (sym (law.hit (omega (arith, w.inside))) ∙ w.between nearest (omega (arith, w.inside)) law.low h))
          pick (no h) = (w.after, omega (arith, w.inside))

  pub window_end_low : (t : List S) (i : ℕ) → i < length t → i < window_end empty misplaced t i
  unfolding window_end
  window_end_low t i b = omega (arith, (least_law (λ y. misplaced (get_or t y empty) (get_or t i empty)) (length t - suc i) (suc i)).low)

  pub window_end_high : (t : List S) (i : ℕ) → window_end empty misplaced t i ≤ length t
  unfolding window_end
  window_end_high t i = omega arith

  -- slots may be counted from one further on
  window_shift : (e : S) (rest : List S) (i : ℕ) → window_end empty misplaced (e ∷ rest) (suc i) ≡ suc (window_end empty misplaced rest i)
  unfolding window_end
  window_shift e rest i =
      let n : suc (length rest) - suc (suc i) ≡ length rest - suc i = omega arith in
      rw (n, least_shift (λ y. misplaced (get_or (e ∷ rest) y empty) (get_or rest i empty)) (length rest - suc i) (suc i)) (omega arith)

module _ {S : Type 0} (empty : S) (occupied : S → Bool) (misplaced : S → S → Bool) where
  -- the equation of costs, by slot number
  pub cost_at : (top : ℕ) (t : List S) (i : ℕ) → i < length t
      → slot_cost empty occupied misplaced top t i ≡ cond (occupied (get_or t i empty)) (suc (minimum (slot_cost empty occupied misplaced top t) top (window_end empty misplaced t i - suc i) (suc i))) 0
  unfolding costs
  cost_at top [] i h = absurd (omega arith)
  cost_at top (e ∷ rest) zero h = rw minimum_shift
  cost_at top (e ∷ rest) (suc i) h =
      let w = window_end empty misplaced rest i in
      let n : suc w - suc (suc i) ≡ w - suc i = omega arith in
      rw (window_shift empty misplaced e rest i, n, minimum_shift (slot_cost empty occupied misplaced top (e ∷ rest)) top (w - suc i) (suc i)) (cost_at top rest i (omega arith))

pub window_or_past : {S : Type 0} (empty : S) (misplaced : S → S → Bool) (t : List S) → WindowOrPast empty Higher misplaced t
window_or_past empty misplaced t i j a b l = pick (dec_lt place j)
  where
    test : ℕ → Bool
    test y = misplaced (get_or t y empty) (get_or t i empty)

    place : ℕ
    place = least test (j - suc i) (suc i)

    nearest : Least test (suc i) (suc i + (j - suc i)) place
    nearest = least_law test (j - suc i) (suc i)

    pick : Dec (place < j)
        → InWindow empty Higher misplaced t i j ⊎ ((y : ℕ) × InWindow empty Higher misplaced t i y × (y < j) × (test y ≡ true))
    pick (yes h) =
        inr (place, record { inside = omega arith; after = nearest.low; between = λ y a u v. nearest.before y u v }, h, nearest.hit (omega arith))
    pick (no h) = inl (record { inside = b; after = l; between = λ y a u v. nearest.before y u (omega arith) })

module _ {S : Type 0} (empty : S) (occupied : S → Bool) (misplaced : S → S → Bool) (top : ℕ) (t : List S) where
  -- the least cost in the window of slot s
  abbrev least_after : ℕ → ℕ
  least_after s = minimum (slot_cost empty occupied misplaced top t) top (window_end empty misplaced t s - suc s) (suc s)

  least_after_law : (s : ℕ) → s < length t → Minimum (slot_cost empty occupied misplaced top t) top (suc s) (window_end empty misplaced t s) (least_after s)
  least_after_law s b =
      let whole : suc s + (window_end empty misplaced t s - suc s) ≡ window_end empty misplaced t s = omega (arith, window_end_low empty misplaced t s b) in
      rw whole at (minimum_law (slot_cost empty occupied misplaced top t) top (window_end empty misplaced t s - suc s) (suc s))

  cost_vacant : (s : ℕ) → s < length t → occupied (get_or t s empty) ≡ false → slot_cost empty occupied misplaced top t s ≡ 0
  cost_vacant s b o = cost_at empty occupied misplaced top t s b ∙ ap (λ (x : Bool). cond x (suc (least_after s)) 0) o

  cost_occupied : (s : ℕ) → s < length t → occupied (get_or t s empty) ≡ true → slot_cost empty occupied misplaced top t s ≡ suc (least_after s)
  cost_occupied s b o = cost_at empty occupied misplaced top t s b ∙ ap (λ (x : Bool). cond x (suc (least_after s)) 0) o

  pub next_law : (s : ℕ) → s < length t → occupied (get_or t s empty) ≡ true → slot_cost empty occupied misplaced top t s ≤ top
      → InWindow empty Higher misplaced t s (next_slot empty occupied misplaced top t s)
      × (slot_cost empty occupied misplaced top t s ≡ suc (slot_cost empty occupied misplaced top t (next_slot empty occupied misplaced top t s)))
      × ((y : ℕ) → y < length t → s < y → y < next_slot empty occupied misplaced top t s → slot_cost empty occupied misplaced top t (next_slot empty occupied misplaced top t s) < slot_cost empty occupied misplaced top t y)
  unfolding next_slot
  next_law s b o h =
      let e = cost_occupied s b o in
      let r = lowest_at_law (slot_cost empty occupied misplaced top t) top (window_end empty misplaced t s - suc s) (suc s) (omega arith) in (
        (window_end_lem empty misplaced t s (next_slot empty occupied misplaced top t s)).1 (r.from, omega (arith, r.below, r.from)),
        e ∙ ap suc (sym r.value),
        λ y a l u. omega (arith, r.tie y l (omega (arith, r.below)) u, r.value),
      )

  pub costs_law : Costs empty occupied Higher misplaced t top (slot_cost empty occupied misplaced top t)
  costs_law = record {
    vacant = cost_vacant;
    within = λ i j b o w.
        let v = (window_end_lem empty misplaced t i j).0 w in
        omega (arith, cost_occupied i b o, (least_after_law i b).low j v.0 v.1);
    bounded = λ i b. ⊎_elim
        (λ o. omega (arith, cost_occupied i b o, (least_after_law i b).high))
        (λ o. omega (arith, cost_vacant i b o)) (decided (occupied (get_or t i empty)));
    next = λ i b o h. let r = next_law i b o h in (next_slot empty occupied misplaced top t i, r.0, r.1, r.2);
  }
