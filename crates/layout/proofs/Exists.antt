-- End theorems on existence: with an empty slot and A < B the choice is finite, so the plan has at most N writes.
-- An empty slot after A serves a down plan, one at or before A an up plan.
use Rattle.std.specs.Prelude.{◌≡◌, Bool, true, false, List, length, get_or}
use Rattle.std.proofs.Common.{sym, ◌∙◌, subst, true≢false, ⊎_elim, add-zero, arith}
use Prim.Native.Nat.{ℕ, zero, suc, ◌+◌, ◌-◌, ◌≤◌, ◌<◌, min}
use Rattle.std.proofs.Math.Nat.{zero-add, sub-zero}
use Rattle.std.proofs.Math.Decide.{dec_le}
use Rattle.search.specs.Search.{Least, AfterLast}
use Rattle.search.specs.SearchLaws.{least_law, after_last_law, and_both, decided}
use Rattle.layout.specs.Order.{ties}
use Rattle.layout.specs.Cost.{InWindow, Costs}
use Rattle.layout.specs.Plan.{down_cost, up_cost, best_down, best_up, after_preceding, first_dependant, range_down, range_up, Uncrossed, insert_choice}
use Rattle.layout.proofs.ChooseLaws.{best_down_lem, best_up_lem, choose_least}
use Rattle.layout.proofs.PlanCostLaws.{down_costs, up_costs}

-- Slots at 0, 1, 2, .. steps from an empty one, each in the window of the next, cost no more than their steps.
near :
    {S : Type 0} {empty : S} {occupied : S → Bool} {toward : ℕ → ℕ → Type 0} {misplaced : S → S → Bool} {t : List S} {top : ℕ} {c : ℕ → ℕ}
    → Costs empty occupied toward misplaced t top c → (at : ℕ → ℕ) (n : ℕ) → ((k : ℕ) → k ≤ n → at k < length t)
    → ((k : ℕ) → k < n → InWindow empty toward misplaced t (at (suc k)) (at k))
    → occupied (get_or t (at 0) empty) ≡ false → (k : ℕ) → k ≤ n → c (at k) ≤ k
near law at n inside next o zero h = omega (arith, law.vacant (at 0) (inside 0 h) o)
near {empty = empty} {occupied = occupied} {t = t} {c = c} law at n inside next o (suc k) h =
    ⊎_elim
    (λ e. omega (arith, law.within (at (suc k)) (at k) (inside (suc k) h) e (next k h), near law at n inside next o k (omega arith)))
    (λ e. omega (arith, law.vacant (at (suc k)) (inside (suc k) h) e)) (decided (occupied (get_or t (at (suc k)) empty)))

module _ {S : Type 0} (empty : S) (occupied : S → Bool) (misordered : S → S → Bool) (t : List S) where
  pub down_near : (e : ℕ) → e < length t → occupied (get_or t e empty) ≡ false → (i : ℕ) → i ≤ e → down_cost empty occupied misordered t i ≤ e - i
  down_near e b o i l =
      subst (λ (z : ℕ). down_cost empty occupied misordered t z ≤ e - i) back
      (near (down_costs empty occupied misordered t) (λ k. e - k) e (λ k h. omega arith)
      (λ k h. record { inside = omega arith; after = omega arith; between = λ y a u v. absurd (omega arith) }) (rw sub-zero o) (e - i) (omega arith))
    where
      back : e - (e - i) ≡ i
      back = omega arith

  pub up_near : (e : ℕ) → e < length t → occupied (get_or t e empty) ≡ false → (i : ℕ) → e ≤ i → i < length t → up_cost empty occupied misordered t i ≤ i - e
  up_near e b o i l r =
      subst (λ (z : ℕ). up_cost empty occupied misordered t z ≤ i - e) back
      (near (up_costs empty occupied misordered t) (λ k. e + k) (i - e) (λ k h. omega arith)
      (λ k h. record { inside = omega arith; after = omega arith; between = λ y a u v. absurd (omega arith) }) (rw add-zero o) (i - e) (omega arith))
    where
      back : e + (i - e) ≡ i
      back = omega arith

module _ {S : Type 0} (empty : S) (misordered : S → S → Bool) (t : List S) (new : S) where
  pub after_preceding_law : AfterLast (λ i. misordered new (get_or t i empty)) (length t) (after_preceding empty misordered t new)
  unfolding after_preceding
  after_preceding_law = after_last_law (λ i. misordered new (get_or t i empty)) (length t)

  pub first_dependant_law : Least (λ i. misordered (get_or t i empty) new) 0 (length t) (first_dependant empty misordered t new)
  unfolding first_dependant
  first_dependant_law = rw zero-add at (least_law (λ i. misordered (get_or t i empty) new) (length t) 0)

  -- a rule that ties with none and is not crossed (A > B) has A < B
  pub untied_uncrossed : ((i : ℕ) → i < length t → ties misordered (get_or t i empty) new ≡ false)
      → after_preceding empty misordered t new ≤ suc (first_dependant empty misordered t new) → Uncrossed empty misordered t new
  untied_uncrossed untied h = pick (dec_le (after_preceding empty misordered t new) (first_dependant empty misordered t new))
    where
      b : ℕ
      b = first_dependant empty misordered t new

      pick : Dec (after_preceding empty misordered t new ≤ b) → Uncrossed empty misordered t new
      pick (yes l) = l
      pick (no l) =
          let inside : b < length t = omega (arith, after_preceding_law.high) in
          let after : misordered new (get_or t b empty) ≡ true = after_preceding_law.hit b (omega arith) in
          let before : misordered (get_or t b empty) new ≡ true = first_dependant_law.hit inside in
          absurd (true≢false (sym (and_both (misordered (get_or t b empty) new) (misordered new (get_or t b empty)) before after) ∙ untied b inside))

  -- with an empty slot and A < B, one of the two choices is finite
  pub choice_exists : (occupied : S → Bool) (e : ℕ) → e < length t → occupied (get_or t e empty) ≡ false → Uncrossed empty misordered t new
      → suc (insert_choice empty occupied misordered t new).cost ≤ length t
  unfolding insert_choice
  choice_exists occupied e b o uncrossed =
      omega (arith, choose_least empty occupied misordered t (range_down empty misordered t new) (range_up empty misordered t new), smaller (dec_le a e) (dec_le e f))
    where
      a : ℕ
      a = after_preceding empty misordered t new

      f : ℕ
      f = first_dependant empty misordered t new

      smaller : Dec (a ≤ e) → Dec (e ≤ f)
          → min (best_down empty occupied misordered t (range_down empty misordered t new))
          (best_up empty occupied misordered t (range_up empty misordered t new)) < length t
      smaller (yes l) (yes r) =
          omega (
            arith,
            best_down_lem empty occupied misordered t (range_down empty misordered t new) e l (omega arith) b,
            down_near empty occupied misordered t e b o e (omega arith),
          )
      smaller (yes l) (no r) =
          omega (
            arith,
            best_down_lem empty occupied misordered t (range_down empty misordered t new) f uncrossed (omega arith) (omega arith),
            down_near empty occupied misordered t e b o f (omega arith),
          )
      smaller (no l) d =
          omega (
            arith,
            best_up_lem empty occupied misordered t (range_up empty misordered t new) (a - 1) (omega arith) (omega arith) (omega (arith, after_preceding_law.high)),
            up_near empty occupied misordered t e b o (a - 1) (omega arith) (omega (arith, after_preceding_law.high)),
            after_preceding_law.high,
          )
