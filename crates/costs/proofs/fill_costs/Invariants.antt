-- `costs::fill_costs` meets its contract.
-- From the loop's position on the equation of costs holds, and a store before that position leaves it so; the least cost from there on is at hand.
use mathlib.Core.Path.{◌≡◌}
use Prim.Native.Nat.{◌-◌, ◌≤◌}
use lib.ListN.{length, drop}
use Rattle.layout.specs.Minimum.{minimum}
use Rattle.costs.specs.Costs.{cost_of, SolvedFrom}
use Rattle.costs.proofs.fill_costs.Given as goal

abbrev pub invariant-loop-position : goal.invariant-loop-position
invariant-loop-position l = (l.position ≤ l.slots)
    × (length l.costs ≡ length l.initial.costs)
    × SolvedFrom l.ends l.slots l.position (cost_of l.costs)
    × (drop l.slots l.costs ≡ drop l.slots l.initial.costs)
    × (l.least ≡ minimum (cost_of l.costs) l.slots (l.slots - l.position) l.position)
