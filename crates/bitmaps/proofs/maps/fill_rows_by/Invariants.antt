-- `bitmaps::maps::fill_rows_by` meets its contract. The loop's invariant: the rows of the words passed, no more than places chosen in them.
use mathlib.Core.Path.{◌≡◌}
use Prim.Native.Nat.{◌≤◌}
use lib.ListN.{length}
use Rattle.bitmaps.specs.Rows.{RowsOf, total}
use Rattle.bitmaps.proofs.maps.fill_rows_by.Given as goal

abbrev pub invariant-loop-word : goal.invariant-loop-word
invariant-loop-word l = (l.word ≤ l.width) × (length l.others ≡ length l.initial.others) × (length l.own ≡ length l.initial.own) × (l.used ≤ total l.chosen l.word) × RowsOf l.width l.table l.places l.count l.slot l.others l.own l.used
