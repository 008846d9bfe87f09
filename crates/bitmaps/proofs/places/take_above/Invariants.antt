-- `bitmaps::places::take_above` meets its contract.
-- A score of at most 256 leaves half of what was left, and a place that is taken is below the number of places.
use mathlib.Core.Path.{◌≡◌}
use Prim.Native.Nat.{◌*◌, ◌≤◌}
use lib.ListN.{length}
use Rattle.bitmaps.specs.Places.{Below}
use Rattle.bitmaps.proofs.places.take_above.Given as goal

abbrev pub invariant-loop-place : goal.invariant-loop-place
invariant-loop-place l = (l.place ≤ 64 * l.width) × (l.count ≤ 64) × (l.left ≤ 1073741824) × (length l.scores ≡ length l.initial.scores) × (length l.places ≡ length l.initial.places) × Below l.scores (64 * l.width) 257 × Below l.places l.count (64 * l.width)
