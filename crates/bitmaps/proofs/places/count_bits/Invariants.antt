-- `bitmaps::places::count_bits` meets its contract: the planes stay as many.
use mathlib.Core.Path.{◌≡◌}
use Prim.Native.Nat.{◌≤◌}
use lib.ListN.{length}
use Rattle.bitmaps.proofs.places.count_bits.Given as goal

abbrev pub invariant-loop-k : goal.invariant-loop-k
invariant-loop-k l = (l.k ≤ 6) × (length l.planes ≡ length l.initial.planes)
