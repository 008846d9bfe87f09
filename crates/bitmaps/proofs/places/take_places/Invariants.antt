-- `bitmaps::places::take_places` meets its contract.
-- Each level keeps the bounds.
use mathlib.Core.Path.{◌≡◌}
use Prim.Native.Nat.{◌*◌, ◌≤◌}
use lib.ListN.{length}
use Rattle.bitmaps.specs.Places.{Below}
use Rattle.bitmaps.proofs.places.take_places.Given as goal

abbrev pub invariant-loop-level : goal.invariant-loop-level
invariant-loop-level l = (l.chosen.count ≤ 64) × (l.chosen.left ≤ 1073741824) × (length l.scores ≡ length l.initial.scores) × (length l.places ≡ length l.initial.places) × Below l.scores (64 * l.width) 257 × Below l.places l.chosen.count (64 * l.width)

abbrev pub decreases-loop-level : goal.decreases-loop-level
decreases-loop-level l = l.level
