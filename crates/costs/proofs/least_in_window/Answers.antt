-- `costs::least_in_window` meets its contract.
-- A window with no position has the minimum `top`; else it is the lesser of the first cost and the minimum of the others.
use mathlib.Core.Path.{sym}
use native.Mathlib.Omega.{arith}
use Rattle.costs.specs.Costs.{cost_of}
use Rattle.costs.proofs.CostsLaws.{minimum_further, minimum_over}
use Rattle.costs.proofs.least_in_window.Goals as goal

pub returns-then-to-from : goal.returns-then-to-from
returns-then-to-from c = sym (minimum_over _ _ _ _ c.if-to-from.true)

pub returns : goal.returns
returns c =
    let start = c.args in
    omega (arith, minimum_further (cost_of start.costs.now) start.top start.to start.from (omega arith))
