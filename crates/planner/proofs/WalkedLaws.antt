-- Laws on one direction along positions: the walk by a layout's costs is its chain.
-- Going up the layout is the reversed one and the relation swapped.
use Rattle.std.specs.Prelude.{◌≡◌, refl, Bool, List, [], ◌∷◌, map, length}
use Rattle.std.proofs.Common.{sym, ◌∙◌, arith}
use Rattle.std.proofs.lemmas.List.{map-append}
use Prim.Native.Nat.{ℕ, zero, suc, ◌<◌}
use Rattle.layout.specs.Order.{Higher}
use Rattle.layout.specs.Cost.{InWindow}
use Rattle.layout.specs.Chain.{Walk, steps, first_of_cost}
use Rattle.layout.specs.Write.{moves, copy}
use Rattle.layout.specs.Plan.{down_cost, down_chain}
use Rattle.layout.proofs.ChainLaws.{first_of_cost_lem, first_of_cost_cong, walk_steps}
use Rattle.layout.proofs.PlanCostLaws.{down_costs, down_walk}
use Rattle.plan_words.specs.PlanWords.{write_word}
use Rattle.positions.specs.Positions.{slot_at}
use Rattle.planner.specs.Emit.{Stays, emitted}

-- the words of a walk are those of its moves, from slot to slot
pub emitted_moves : (c : ℕ → ℕ) (slots : ℕ) (up : Bool) (s k : ℕ)
    → emitted c slots up s k ≡ map write_word (moves (slot_at slots up s) (map (slot_at slots up) (steps (first_of_cost c slots) k s)))
unfolding emitted moves steps
emitted_moves c slots up s zero = refl
emitted_moves c slots up s (suc k) =
    let j = first_of_cost c slots k s in
    rw (emitted_moves c slots up j k)
    (sym (map-append write_word (moves (slot_at slots up j) (map (slot_at slots up) (steps (first_of_cost c slots) k j)))
    (copy (slot_at slots up s) (slot_at slots up j) ∷ [])))

module _ {S : Type 0} (empty : S) (occupied : S → Bool) (misplaced : S → S → Bool) (t : List S) where
  module _ (c : ℕ → ℕ) (costs : (p : ℕ) → p < length t → c p ≡ down_cost empty occupied misplaced t p) where
    -- the first position after s of the cost that is left is where the tie rule goes
    next_position : (s j k : ℕ) → s < length t → InWindow empty Higher misplaced t s j → down_cost empty occupied misplaced t j ≡ k
        → ((y : ℕ) → y < length t → s < y → y < j → down_cost empty occupied misplaced t j < down_cost empty occupied misplaced t y)
        → first_of_cost c (length t) k s ≡ j
    next_position s j k b w e f = first_of_cost_cong (length t) costs k s ∙ first_of_cost_lem s j k b w e f

    walk_stays : {s : ℕ} {rest : List ℕ} → Walk empty occupied Higher misplaced t (down_cost empty occupied misplaced t) s rest
        → (k : ℕ) → down_cost empty occupied misplaced t s ≡ k → Stays c (length t) s k
    unfolding Stays
    walk_stays {s} (Walk.stop b o) zero e = b
    walk_stays {s} (Walk.stop b o) (suc k) e = absurd (omega (arith, (down_costs empty occupied misplaced t).vacant s b o))
    walk_stays {s} (Walk.link b o w q g x) zero e = absurd (omega arith)
    walk_stays {s} (Walk.link {j = j} b o w q g x) (suc k) e =
        (b, rw (next_position s j k b w (omega arith) g) (walk_stays x k (omega arith)))

    module _ (s : ℕ) (b : s < length t) (finite : c s < length t) where
      pub stays : Stays c (length t) s (c s)
      stays = walk_stays (down_walk empty occupied misplaced t s b (omega (arith, costs s b))) (c s) (sym (costs s b))

      pub chain_steps : down_chain empty occupied misplaced t s ≡ steps (first_of_cost c (length t)) (c s) s
      chain_steps =
          walk_steps (down_costs empty occupied misplaced t) (first_of_cost c (length t)) next_position
          (down_walk empty occupied misplaced t s b (omega (arith, costs s b))) (c s) (sym (costs s b))

      pub words : (up : Bool) → emitted c (length t) up s (c s)
          ≡ map write_word (moves (slot_at (length t) up s) (map (slot_at (length t) up) (down_chain empty occupied misplaced t s)))
      words up = rw chain_steps (emitted_moves c (length t) up s (c s))
