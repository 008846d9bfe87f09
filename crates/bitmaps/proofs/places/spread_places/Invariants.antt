-- `bitmaps::places::spread_places` meets its contract. The loop's invariant: the first k places are spread.
use mathlib.Core.Path.{◌≡◌}
use Prim.Native.Nat.{◌≤◌}
use lib.ListN.{length}
use Rattle.bitmaps.specs.Rows.{Spread, total}
use Rattle.bitmaps.proofs.places.spread_places.Given as goal

abbrev pub invariant-loop-k : goal.invariant-loop-k
invariant-loop-k l = (l.k ≤ length l.places) × (length l.chosen ≡ length l.initial.chosen) × (length l.starts ≡ length l.initial.starts) × (total l.chosen l.width ≤ l.k) × Spread l.places l.k l.chosen l.starts
