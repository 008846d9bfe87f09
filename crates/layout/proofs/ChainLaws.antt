-- Laws on chains: a slot's cost is the length of its shortest chain, and the tie rule's walk is such a chain.
use Rattle.std.specs.Prelude.{◌≡◌, refl, Bool, true, false, ◌↔◌, ◌⊎◌, List, map, reverse, ℕ, zero, suc, ◌+◌, ◌-◌, ◌≤◌, ◌<◌, eqb, length, get_or}
use Rattle.std.proofs.Common.{sym, ap, ◌∙◌, ⊎_elim, arith, eq-eqb, ne_eqb}
use Rattle.std.proofs.Math.Logic.◌⊎◌.{inl, inr}
use Rattle.std.proofs.lemmas.List.{length-reverse}
use Rattle.search.specs.SearchLaws.{least_law, least_unique, least_cong, decided}
use Rattle.layout.specs.Order.{Higher, Lower}
use Rattle.layout.specs.Cost.{InWindow, Costs, slot_cost, next_slot}
use Rattle.layout.specs.Mirror.{mirror}
use Rattle.layout.proofs.CostLaws.{costs_law, next_law}
use Rattle.layout.proofs.MirrorLaws.{mirror_twice, get_d_reverse, window_mirrored}
use Rattle.layout.specs.Chain.{Chain, first_of_cost, Walk, steps, link, stop}

module _ {S : Type 0} {empty : S} {occupied : S → Bool} {toward : ℕ → ℕ → Type 0} {misplaced : S → S → Bool} {t : List S} where
  pub chain_inside : {s : ℕ} {rest : List ℕ} → Chain empty occupied toward misplaced t s rest → s < length t
  chain_inside (Chain.stop b o) = b
  chain_inside (Chain.link b o w k) = b

  -- along a chain a rank below the number of slots rises, so that it has no more slots than there are
  pub chain_length : (rank : ℕ → ℕ) → ((i : ℕ) → i < length t → rank i < length t)
      → ((i j : ℕ) → i < length t → j < length t → toward i j → rank i < rank j)
      → {s : ℕ} {rest : List ℕ} → Chain empty occupied toward misplaced t s rest → length rest + rank s < length t
  chain_length rank low rises {s} (Chain.stop b o) = omega (arith, low s b)
  chain_length rank low rises {s} (Chain.link {j = j} b o w k) = omega (arith, chain_length rank low rises k, rises s j b w.inside w.after)

  module _ {top : ℕ} {c : ℕ → ℕ} (law : Costs empty occupied toward misplaced t top c) where
    -- exactly the empty slots cost nothing
    pub cost_zero : (s : ℕ) → s < length t → (c s ≡ 0) ↔ (occupied (get_or t s empty) ≡ false)
    cost_zero s b = (λ e. pick e (decided (occupied (get_or t s empty))), law.vacant s b)
      where
        pick : c s ≡ 0 → (occupied (get_or t s empty) ≡ true) ⊎ (occupied (get_or t s empty) ≡ false) → occupied (get_or t s empty) ≡ false
        pick e (inl o) = absurd (let r = law.next s b o (omega arith) in omega (arith, r.2))
        pick e (inr o) = o

    pub cost_positive : (s k : ℕ) → s < length t → c s ≡ suc k → occupied (get_or t s empty) ≡ true
    cost_positive s k b e = ⊎_elim (λ o. o) (λ o. absurd (omega (arith, law.vacant s b o))) (decided (occupied (get_or t s empty)))

    -- no chain is shorter than the cost
    pub chain_cost : {s : ℕ} {rest : List ℕ} → Chain empty occupied toward misplaced t s rest → c s ≤ length rest
    chain_cost {s} (Chain.stop b o) = omega (arith, law.vacant s b o)
    chain_cost {s} (Chain.link {j = j} b o w k) = omega (arith, law.within s j b o w, chain_cost k)

    -- the walk is a chain, and its length is the cost
    pub walk_chain : {s : ℕ} {rest : List ℕ} → Walk empty occupied toward misplaced t c s rest → Chain empty occupied toward misplaced t s rest
    walk_chain (Walk.stop b o) = stop b o
    walk_chain (Walk.link b o w e f k) = link b o w (walk_chain k)

    pub walk_length : {s : ℕ} {rest : List ℕ} → Walk empty occupied toward misplaced t c s rest → length rest ≡ c s
    walk_length {s} (Walk.stop b o) = sym (law.vacant s b o)
    walk_length {s} (Walk.link b o w e f k) = ap suc (walk_length k) ∙ sym e

    module _ (rank : ℕ → ℕ) (low : (i : ℕ) → i < length t → rank i < length t)
        (rises : (i j : ℕ) → i < length t → j < length t → toward i j → rank i < rank j) where
      -- a cost that is walked is below the number of slots, by as many as come before
      pub walk_below : {s : ℕ} {rest : List ℕ} → Walk empty occupied toward misplaced t c s rest → c s + rank s < length t
      walk_below w = omega (arith, chain_length rank low rises (walk_chain w), walk_length w)

      pub chain_below : {s : ℕ} {rest : List ℕ} → Chain empty occupied toward misplaced t s rest → c s < length t
      chain_below k = omega (arith, chain_cost k, chain_length rank low rises k)

-- stepping to the lowest slot of least cost in each window, from a slot of finite cost, is the tie rule's walk
pub steps_walk : {S : Type 0} (empty : S) (occupied : S → Bool) (misplaced : S → S → Bool) (top : ℕ) (t : List S)
    → (k s : ℕ) → s < length t → slot_cost empty occupied misplaced top t s ≡ k → k ≤ top
    → Walk empty occupied Higher misplaced t (slot_cost empty occupied misplaced top t) s (steps (λ k. next_slot empty occupied misplaced top t) k s)
unfolding steps
steps_walk empty occupied misplaced top t zero s b e h = stop b ((cost_zero (costs_law empty occupied misplaced top t) s b).0 e)
steps_walk empty occupied misplaced top t (suc k) s b e h =
    let o = cost_positive (costs_law empty occupied misplaced top t) s k b e in
    let r = next_law empty occupied misplaced top t s b o (omega arith) in
    let j = next_slot empty occupied misplaced top t s in
    link b o r.0 r.1 r.2 (steps_walk empty occupied misplaced top t k j r.0.inside (omega (arith, r.1)) (omega arith))

module _ {S : Type 0} {empty : S} {occupied : S → Bool} {misplaced : S → S → Bool} {t : List S} {c : ℕ → ℕ} where
  -- a walk of the mirror image, slot for slot, is one of the layout itself
  pub walk_mirrored : {s : ℕ} {rest : List ℕ} → Walk empty occupied Higher misplaced (reverse t) c s rest
      → Walk empty occupied Lower misplaced t (λ i. c (mirror (length t) i)) (mirror (length t) s) (map (mirror (length t)) rest)
  walk_mirrored {s} (Walk.stop b o) =
      let h : s < length t = omega (arith, length-reverse t) in
      stop {s = mirror (length t) s} (omega arith) (rw (get_d_reverse t empty s h) at o)
  walk_mirrored {s} (Walk.link {j = j} b o w e f k) =
      let n : length (reverse t) ≡ length t = length-reverse t in
      let r : j < length t = omega (arith, w.inside) in
      let h : s < length t = omega arith in
      let at_s : mirror (length t) (mirror (length t) s) ≡ s = mirror_twice (length t) s h in
      let at_j : mirror (length t) (mirror (length t) j) ≡ j = mirror_twice (length t) j r in
      link {s = mirror (length t) s} {j = mirror (length t) j} (omega arith) (rw (get_d_reverse t empty s h) at o)
      ((window_mirrored empty t misplaced (mirror (length t) s) (mirror (length t) j) (omega arith) (omega arith)).1 (rw (at_s, at_j) w))
      (rw (at_s, at_j) e) (λ y a l u. rw at_j (f (mirror (length t) y) (omega arith) (omega arith) (omega arith))) (walk_mirrored k)

-- a step by costs looks at the costs of the slots alone
pub first_of_cost_cong : {c d : ℕ → ℕ} (n : ℕ) → ((j : ℕ) → j < n → c j ≡ d j) → (k s : ℕ) → first_of_cost c n k s ≡ first_of_cost d n k s
first_of_cost_cong n h k s = least_cong (n - suc s) (suc s) (λ j l r. ap (λ (x : ℕ). eqb x k) (h j (omega arith)))

-- the walk is found by stepping, where each step goes to the slot that the tie rule takes
pub walk_steps : {S : Type 0} {empty : S} {occupied : S → Bool} {toward : ℕ → ℕ → Type 0} {misplaced : S → S → Bool} {t : List S} {top : ℕ} {c : ℕ → ℕ}
    → Costs empty occupied toward misplaced t top c → (next : ℕ → ℕ → ℕ)
    → ((s j k : ℕ) → s < length t → InWindow empty toward misplaced t s j → c j ≡ k → ((y : ℕ) → y < length t → toward s y → toward y j → c j < c y) → next k s ≡ j)
    → {s : ℕ} {rest : List ℕ} → Walk empty occupied toward misplaced t c s rest → (k : ℕ) → c s ≡ k → rest ≡ steps next k s
unfolding steps
walk_steps law next f {s} (Walk.stop b o) zero e = refl
walk_steps law next f {s} (Walk.stop b o) (suc k) e = absurd (omega (arith, law.vacant s b o))
walk_steps law next f {s} (Walk.link b o w q g x) zero e = absurd (omega arith)
walk_steps law next f {s} (Walk.link {j = j} b o w q g x) (suc k) e =
    rw (f s j k b w (omega arith) g, walk_steps law next f x k (omega arith))

module _ {S : Type 0} {empty : S} {misplaced : S → S → Bool} {t : List S} {c : ℕ → ℕ} where
  pub first_of_cost_lem : (s j k : ℕ) → s < length t → InWindow empty Higher misplaced t s j → c j ≡ k → ((y : ℕ) → y < length t → s < y → y < j → c j < c y)
      → first_of_cost c (length t) k s ≡ j
  first_of_cost_lem s j k b w e f =
      least_unique (least_law (λ y. eqb (c y) k) (length t - suc s) (suc s)) (record {
        low = w.after;
        high = omega (arith, w.inside);
        before = λ y l r. ne_eqb (c y) k (λ z. omega (arith, f y (omega (arith, w.inside)) l r));
        hit = λ l. eq-eqb (c j) k e;
      })
