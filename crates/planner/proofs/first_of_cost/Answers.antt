-- `planner::first_of_cost` meets its contract.
-- The search from the loop's position on gives what the whole search gives.
use mathlib.Core.Path.{refl, sym, ◌∙◌}
use native.Mathlib.Omega.{arith}
use borrow.Author.Tests.{eq-eqb, ne_eqb}
use Prim.Native.Nat.{ℕ, ◌-◌}
use lib.Dec.{eqb}
use Rattle.search.specs.SearchLaws.{least_law}
use Rattle.costs.specs.Costs.{cost_of}
use Rattle.search.specs.PartsLaws.{least_at_start, least_further, least_over}
use Rattle.planner.proofs.first_of_cost.Goals as goal

pub loop-at-init : goal.loop-at-init
loop-at-init c = refl

pub returns-then-costs-at : goal.returns-then-costs-at
returns-then-costs-at c = sym (least_at_start _ _ _ (omega arith) (eq-eqb _ _ c.if-costs-at.true)) ∙ c.loop-at.invariant

pub loop-at-preserved : goal.loop-at-preserved
loop-at-preserved c = sym (least_further _ _ _ (omega arith) (ne_eqb _ _ c.if-costs-at.false)) ∙ c.loop-at.invariant

pub returns : goal.returns
returns c =
    let start = c.args in
    let whole = least_law (λ (j : ℕ). eqb (cost_of start.costs.now j) start.cost) (start.to - start.from) start.from in
    omega (arith, sym (least_over _ _ _ (omega arith)) ∙ c.loop-at.invariant, whole.low, whole.high)
