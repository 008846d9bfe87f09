-- `planner::first_of_cost` meets its contract.
-- The search from the loop's position on gives what the whole search gives.
use mathlib.Core.Path.{◌≡◌}
use Prim.Native.Nat.{ℕ, ◌-◌}
use lib.Dec.{eqb}
use Rattle.search.specs.Search.{least}
use Rattle.costs.specs.Costs.{cost_of}
use Rattle.planner.proofs.first_of_cost.Given as goal

abbrev pub invariant-loop-at : goal.invariant-loop-at
invariant-loop-at l = least (λ (j : ℕ). eqb (cost_of l.costs j) l.cost) (l.to - l.at) l.at ≡ least (λ (j : ℕ). eqb (cost_of l.costs j) l.cost) (l.to - l.from) l.from
