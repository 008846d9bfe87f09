-- `costs::least_between` meets its contract.
-- The lesser of what the loop has found and the minimum of the positions from its own on is the whole minimum.
use mathlib.Core.Path.{◌≡◌}
use Prim.Native.Nat.{◌-◌, ◌≤◌, min}
use Rattle.layout.specs.Minimum.{minimum}
use Rattle.costs.specs.Costs.{cost_of}
use Rattle.costs.proofs.least_between.Given as goal

abbrev pub invariant-loop-at : goal.invariant-loop-at
invariant-loop-at l = (l.least ≤ l.top) × (min l.least (minimum (cost_of l.costs) l.top (l.to - l.at) l.at) ≡ minimum (cost_of l.costs) l.top (l.to - l.from) l.from)
