-- `bitmaps::places::take_places` meets its contract.
-- Each level keeps the bounds.
use mathlib.Core.Path.{refl}
use mathlib.Core.Bool.{◌&&◌}
use native.Mathlib.Omega.{arith}
use lib.Dec.{ltb}
use Rattle.search.specs.SearchLaws.{and_left}
use Rattle.bitmaps.specs.PlacesLaws.{less}
use Rattle.bitmaps.proofs.places.take_places.Goals as goal

pub loop-level-init : goal.loop-level-init
loop-level-init c = (omega arith, omega arith, refl, refl, c.requires.3, λ k h. absurd (omega arith))

pub take_above-chosen-requires : goal.take_above-chosen-requires
take_above-chosen-requires c =
    let p = c.requires in
    let inv = c.loop-level.invariant in
    record { width = (p.0, omega arith, omega arith, inv.0, inv.1); below = (inv.4, inv.5) }

pub loop-level-smaller : goal.loop-level-smaller
loop-level-smaller c =
    let turn = c.loop-level in
    let some = ltb 0 turn.level && ltb 10737418 turn.chosen.left in
    omega (arith, (less 0 turn.level 10737418 turn.chosen.left (and_left some (ltb turn.chosen.count 64) c.loop-level-test.true)).0)

pub loop-level-preserved : goal.loop-level-preserved
loop-level-preserved c =
    let inv = c.loop-level.invariant in
    (omega arith, omega arith, omega (arith, inv.2), omega (arith, inv.3), c.take_above-chosen.ensures.2, c.take_above-chosen.ensures.3)

pub returns : goal.returns
returns c = (omega arith, c.loop-level.invariant.5)
