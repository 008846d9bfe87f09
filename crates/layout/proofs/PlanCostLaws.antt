-- End theorems on down and up costs by slot number, each as document 01 words it, and the walks that they give.
-- Costs of N or more are infinite: a finite cost is below N, and it is finite exactly where there is a chain.
use Rattle.std.specs.Prelude.{◌≡◌, true, false, cond, ◌↔◌, ◌⊎◌, List, reverse, length, get_or}
use Rattle.std.proofs.Common.{sym, ap, ◌∙◌, true≢false, arith}
use Rattle.std.proofs.Math.Path.{refl, subst}
use Rattle.std.proofs.Math.Bool.{Bool}
use Rattle.std.proofs.Math.Logic.◌⊎◌.{inl, inr}
use Prim.Native.Nat.{ℕ, zero, suc, ◌+◌, ◌-◌, ◌≤◌, ◌<◌, pred}
use Rattle.std.proofs.Math.Decide.{dec_lt, dec_le}
use Rattle.std.proofs.Math.ListN.{length-reverse}
use Rattle.search.specs.Search.{after_last, AfterLast}
use Rattle.search.specs.SearchLaws.{decided, after_last_law}
use Rattle.layout.specs.Order.{Higher, Lower, swapped}
use Rattle.layout.specs.Minimum.{minimum}
use Rattle.layout.specs.Cost.{InWindow, Costs, WindowOrPast, window_end}
use Rattle.layout.specs.Mirror.{mirror}
use Rattle.layout.specs.Chain.{Chain, Walk}
use Rattle.layout.specs.Plan.{window_start, down_cost, up_cost, down_chain, up_chain}
use Rattle.layout.proofs.MinimumLaws.{Minimum, minimum_law, minimum_unique, minimum_cong}
use Rattle.layout.proofs.MirrorLaws.{mirror_twice, costs_mirrored, past_mirrored}
use Rattle.layout.proofs.ChainLaws.{chain_cost, chain_below, walk_chain, walk_length, walk_below, walk_mirrored, steps_walk}
use Rattle.layout.proofs.CostLaws.{window_or_past, cost_at, costs_law, window_end_high}

-- where the window is a stretch of slots, a cost is 0 or 1 + the least over it
cost_stretch :
    {S : Type 0} {empty : S} {occupied : S → Bool} {toward : ℕ → ℕ → Type 0} {misplaced : S → S → Bool} {t : List S} {top : ℕ} {c : ℕ → ℕ}
    → Costs empty occupied toward misplaced t top c → (i : ℕ) → i < length t → (lo hi : ℕ) → lo ≤ hi
    → ((j : ℕ) → InWindow empty toward misplaced t i j ↔ ((lo ≤ j) × (j < hi)))
    → c i ≡ cond (occupied (get_or t i empty)) (suc (minimum c top (hi - lo) lo)) 0
cost_stretch {empty = empty} {occupied} {t = t} {top = top} {c = c} law i b lo hi l f = pick (decided (occupied (get_or t i empty)))
  where
    whole : lo + (hi - lo) ≡ hi
    whole = omega arith

    positive : occupied (get_or t i empty) ≡ true → Dec (c i ≤ top) → c i ≡ suc (pred (c i))
    positive o (yes h) = let r = law.next i b o h in omega (arith, r.2)
    positive o (no h) = omega arith

    least_of : occupied (get_or t i empty) ≡ true → Minimum c top lo hi (pred (c i))
    least_of o = record {
      low = λ j a r. omega (arith, law.within i j b o ((f j).1 (a, r)));
      high = omega (arith, law.bounded i b);
      hit = λ h.
          let r = law.next i b o (omega (arith, positive o (dec_le (c i) top))) in
          let w = (f r.0).0 r.1 in
          (r.0, w.0, w.1, omega (arith, r.2));
    }

    pick : (occupied (get_or t i empty) ≡ true) ⊎ (occupied (get_or t i empty) ≡ false) → c i ≡ cond (occupied (get_or t i empty)) (suc (minimum c top (hi - lo) lo)) 0
    pick (inl o) =
        rw o (positive o (dec_le (c i) top) ∙ ap suc (minimum_unique (least_of o) (rw whole at (minimum_law c top (hi - lo) lo))))
    pick (inr o) = rw o (law.vacant i b o)

module _ {S : Type 0} (empty : S) (misordered : S → S → Bool) (t : List S) where
  module _ (i : ℕ) (b : i < length t) where
    -- the window of slot i going up: the slots from there up to i − 1
    pub window_start_lem : (j : ℕ) → InWindow empty Lower (swapped misordered) t i j ↔ ((window_start empty misordered t i ≤ j) × (j < i))
    unfolding window_start
    window_start_lem j = (forth, λ h. record { inside = omega (arith, h.1); after = h.1; between = λ y a u v. law.after y (omega (arith, h.0)) u })
      where
        test : ℕ → Bool
        test y = misordered (get_or t i empty) (get_or t y empty)

        past : ℕ
        past = after_last test i

        law : AfterLast test i past
        law = after_last_law test i

        forth : InWindow empty Lower (swapped misordered) t i j → (window_start empty misordered t i ≤ j) × (j < i)
        forth w = pick (dec_lt j (pred past))
          where
            pick : Dec (j < pred past) → (window_start empty misordered t i ≤ j) × (j < i)
            pick (yes h) =
                absurd (true≢false (sym (law.hit (pred past) (omega arith)) ∙ w.between (pred past) (omega (arith, law.high)) (omega (arith, law.high)) h))
            pick (no h) = (omega arith, w.after)

    pub window_start_high : window_start empty misordered t i ≤ i
    unfolding window_start
    window_start_high = omega (arith, (after_last_law (λ y. misordered (get_or t i empty) (get_or t y empty)) i).high)

  pub down_past : WindowOrPast empty Higher misordered t
  down_past = window_or_past empty misordered t

  pub up_past : WindowOrPast empty Lower (swapped misordered) t
  up_past = past_mirrored empty t (swapped misordered) (window_or_past empty (swapped misordered) (reverse t))

module _ {S : Type 0} (empty : S) (occupied : S → Bool) (misordered : S → S → Bool) (t : List S) where
  pub down_costs : Costs empty occupied Higher misordered t (length t) (down_cost empty occupied misordered t)
  unfolding down_cost
  down_costs = costs_law empty occupied misordered (length t) t

  pub up_costs : Costs empty occupied Lower (swapped misordered) t (length t) (up_cost empty occupied misordered t)
  unfolding up_cost
  up_costs = costs_mirrored empty t (swapped misordered) occupied (length t) _ (costs_law empty occupied (swapped misordered) (length t) (reverse t))

  -- the chains that the definitions walk are the tie rule's
  pub down_walk : (s : ℕ) → s < length t → down_cost empty occupied misordered t s ≤ length t
      → Walk empty occupied Higher misordered t (down_cost empty occupied misordered t) s (down_chain empty occupied misordered t s)
  unfolding down_cost down_chain
  down_walk s b h = steps_walk empty occupied misordered (length t) t _ s b refl h

  pub up_walk : (s : ℕ) → s < length t → up_cost empty occupied misordered t s ≤ length t
      → Walk empty occupied Lower (swapped misordered) t (up_cost empty occupied misordered t) s (up_chain empty occupied misordered t s)
  unfolding up_cost up_chain
  up_walk s b h =
      subst (λ (z : ℕ). Walk empty occupied Lower (swapped misordered) t (up_cost empty occupied misordered t) z (up_chain empty occupied misordered t s))
      (mirror_twice (length t) s b)
      (walk_mirrored (steps_walk empty occupied (swapped misordered) (length t) (reverse t) _ (mirror (length t) s) (omega (arith, length-reverse t)) refl h))

  -- a finite cost is attained by that chain, and no chain is shorter
  pub down_attained : (s : ℕ) → s < length t → down_cost empty occupied misordered t s < length t
      → Chain empty occupied Higher misordered t s (down_chain empty occupied misordered t s)
      × (length (down_chain empty occupied misordered t s) ≡ down_cost empty occupied misordered t s)
  down_attained s b h = let w = down_walk s b (omega arith) in (walk_chain down_costs w, walk_length down_costs w)

  pub up_attained : (s : ℕ) → s < length t → up_cost empty occupied misordered t s < length t
      → Chain empty occupied Lower (swapped misordered) t s (up_chain empty occupied misordered t s)
      × (length (up_chain empty occupied misordered t s) ≡ up_cost empty occupied misordered t s)
  up_attained s b h = let w = up_walk s b (omega arith) in (walk_chain up_costs w, walk_length up_costs w)

  pub down_shortest : {s : ℕ} {rest : List ℕ} → Chain empty occupied Higher misordered t s rest → down_cost empty occupied misordered t s ≤ length rest
  down_shortest = chain_cost down_costs

  pub up_shortest : {s : ℕ} {rest : List ℕ} → Chain empty occupied Lower (swapped misordered) t s rest → up_cost empty occupied misordered t s ≤ length rest
  up_shortest = chain_cost up_costs

  -- a cost that is not above N is below it, and leaves room for the slots on the other side
  pub down_below : (s : ℕ) → s < length t → down_cost empty occupied misordered t s ≤ length t → down_cost empty occupied misordered t s + s < length t
  down_below s b h = walk_below down_costs (λ i. i) (λ i l. l) (λ i j l r u. u) (down_walk s b h)

  pub up_below : (s : ℕ) → s < length t → up_cost empty occupied misordered t s ≤ length t → up_cost empty occupied misordered t s ≤ s
  up_below s b h = omega (arith, walk_below up_costs (mirror (length t)) (λ i l. omega arith) (λ i j l r u. omega arith) (up_walk s b h))

  -- a cost is finite, below N, exactly where there is a chain
  pub down_finite : (s : ℕ) → s < length t
      → (down_cost empty occupied misordered t s < length t) ↔ ((rest : List ℕ) × Chain empty occupied Higher misordered t s rest)
  down_finite s b = (
    λ h. (down_chain empty occupied misordered t s, (down_attained s b h).0),
    λ w. chain_below down_costs (λ i. i) (λ i l. l) (λ i j l r u. u) w.1,
  )

  pub up_finite : (s : ℕ) → s < length t
      → (up_cost empty occupied misordered t s < length t) ↔ ((rest : List ℕ) × Chain empty occupied Lower (swapped misordered) t s rest)
  up_finite s b = (
    λ h. (up_chain empty occupied misordered t s, (up_attained s b h).0),
    λ w. chain_below up_costs (mirror (length t)) (λ i l. omega arith) (λ i j l r u. omega arith) w.1,
  )

  -- "0 if empty, else 1 + the least down cost of the slots after it, up to and including the nearest dependant of its rule, or up to N − 1"
  pub down_cost_at : (i : ℕ) → i < length t
      → down_cost empty occupied misordered t i
      ≡ cond (occupied (get_or t i empty))
      (suc (minimum (down_cost empty occupied misordered t) (length t) (window_end empty misordered t i - suc i) (suc i))) 0
  unfolding down_cost
  down_cost_at i b = cost_at empty occupied misordered (length t) t i b

  -- "the mirror: slots before it, back to and including the nearest rule that precedes it, or to 0"
  pub up_cost_at : (i : ℕ) → i < length t
      → up_cost empty occupied misordered t i
      ≡ cond (occupied (get_or t i empty))
      (suc (minimum (up_cost empty occupied misordered t) (length t) (i - window_start empty misordered t i) (window_start empty misordered t i))) 0
  up_cost_at i b = cost_stretch up_costs i b (window_start empty misordered t i) i (window_start_high empty misordered t i b) (window_start_lem empty misordered t i b)

  -- these equations settle the costs, so that numbers computed by them from the ends of the windows are the costs
  pub down_cost_only : (c : ℕ → ℕ)
      → ((i : ℕ) → i < length t → c i ≡ cond (occupied (get_or t i empty)) (suc (minimum c (length t) (window_end empty misordered t i - suc i) (suc i))) 0)
      → (i : ℕ) → i < length t → c i ≡ down_cost empty occupied misordered t i
  down_cost_only c f i b = from (length t) i b (omega arith)
    where
      from : (n i : ℕ) → i < length t → length t ≤ n + i → c i ≡ down_cost empty occupied misordered t i
      from zero i b h = absurd (omega arith)
      from (suc n) i b h =
          let e = minimum_cong (length t) (window_end empty misordered t i - suc i) (suc i)
          (λ j l r. from n j (omega (arith, window_end_high empty misordered t i)) (omega arith)) in
          f i b ∙ (ap (λ (m : ℕ). cond (occupied (get_or t i empty)) (suc m) 0) e ∙ sym (down_cost_at i b))
