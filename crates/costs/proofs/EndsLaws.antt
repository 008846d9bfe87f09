-- Laws on window ends: numbers that satisfy the equation of costs over them are the layout's costs.
use Rattle.std.specs.Prelude.{◌≡◌, Bool, true, false, cond, ◌⊎◌, List, ℕ, suc, ◌-◌, ◌<◌, length, get_or}
use Rattle.std.proofs.Common.{ap, ◌∙◌, arith}
use Rattle.std.proofs.Math.Logic.◌⊎◌.{inl, inr}
use Rattle.search.specs.SearchLaws.{decided}
use Rattle.layout.specs.Minimum.{minimum}
use Rattle.layout.specs.Cost.{window_end}
use Rattle.layout.proofs.CostLaws.{window_end_low}
use Rattle.layout.specs.Plan.{down_cost}
use Rattle.layout.proofs.PlanCostLaws.{down_cost_only}
use Rattle.costs.specs.Costs.{SolvedFrom}
use Rattle.costs.proofs.CostsLaws.{cost_vacant, cost_occupied}
use Rattle.costs.specs.Ends.{Ends}

module _ {S : Type 0} (empty : S) (occupied : S → Bool) (misplaced : S → S → Bool) (t : List S) where
  -- numbers that satisfy the equation of costs, over the ends of a layout's windows, are the layout's costs
  pub costs_settled : (ends : List ℕ) (c : ℕ → ℕ) → Ends empty occupied misplaced t ends → SolvedFrom ends (length t) 0 c
      → (p : ℕ) → p < length t → c p ≡ down_cost empty occupied misplaced t p
  costs_settled ends c e f = down_cost_only empty occupied misplaced t c (λ i b. at i b (decided (occupied (get_or t i empty))))
    where
      least_in : ℕ → ℕ → ℕ
      least_in i w = suc (minimum c (length t) (w - suc i) (suc i))

      at : (i : ℕ) → i < length t → (occupied (get_or t i empty) ≡ true) ⊎ (occupied (get_or t i empty) ≡ false)
          → c i ≡ cond (occupied (get_or t i empty)) (suc (minimum c (length t) (window_end empty misplaced t i - suc i) (suc i))) 0
      at i b (inl o) =
          let w : get_or ends i 0 ≡ window_end empty misplaced t i = rw o at (e i b) in
          rw o (f i (omega arith) b
          ∙ (cost_occupied ends (length t) c i (λ z. omega (arith, window_end_low empty misplaced t i b)) ∙ ap (least_in i) w))
      at i b (inr o) = rw o (f i (omega arith) b ∙ cost_vacant ends (length t) c i (rw o at (e i b)))
