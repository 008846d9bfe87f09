-- `bitmaps::maps::note_rows` meets its contract. The loop's invariant: the maps with the first k rows noted.
use mathlib.Core.Path.{◌≡◌}
use Prim.Native.Nat.{◌≤◌}
use lib.ListN.{length}
use Rattle.bitmaps.specs.Rows.{noted}
use Rattle.bitmaps.proofs.maps.note_rows.Given as goal

abbrev pub invariant-loop-row : goal.invariant-loop-row
invariant-loop-row l = (l.row-index ≤ length l.own) × (length l.maps ≡ length l.initial.maps) × (l.maps ≡ noted l.initial.maps l.own l.block l.s l.row-index)
