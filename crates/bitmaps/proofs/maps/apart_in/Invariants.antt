-- `bitmaps::maps::apart_in` meets its contract. The loop's invariant: the join of the first 2 k rows. A turn joins two more.
use mathlib.Core.Path.{◌≡◌}
use Prim.Native.Nat.{◌*◌, ◌/◌, ◌≤◌}
use lib.ListN.{length}
use Rattle.bitmaps.specs.Rows.{gathered}
use Rattle.bitmaps.proofs.maps.apart_in.Given as goal

abbrev pub invariant-loop-k : goal.invariant-loop-k
invariant-loop-k l = (l.k ≤ length l.rows / 2) × (l.apart ≡ gathered l.maps l.rows l.block (2 * l.k))
