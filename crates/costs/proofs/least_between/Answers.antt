-- `costs::least_between` meets its contract.
-- The lesser of what the loop has found and the minimum of the positions from its own on is the whole minimum.
use Prim.Native.Nat.{◌-◌}
use native.Mathlib.Omega.{arith}
use Rattle.layout.proofs.MinimumLaws.{minimum_law}
use Rattle.costs.specs.Costs.{cost_of}
use Rattle.costs.proofs.CostsLaws.{minimum_further, minimum_over}
use Rattle.costs.proofs.least_between.Goals as goal

pub loop-at-init : goal.loop-at-init
loop-at-init c =
    let start = c.args in
    (omega arith, omega (arith, (minimum_law (cost_of start.costs.now) start.top (start.to - start.from) start.from).high))

pub loop-at-preserved : goal.loop-at-preserved
loop-at-preserved c =
    let start = c.args in
    let more = minimum_further (cost_of start.costs.now) start.top start.to c.loop-at.at (omega arith) in
    (omega arith, omega arith)

pub returns : goal.returns
returns c =
    let start = c.args in
    omega (arith, minimum_over (cost_of start.costs.now) start.top start.to c.loop-at.at (omega arith))
