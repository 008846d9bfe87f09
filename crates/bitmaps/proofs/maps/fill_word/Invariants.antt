-- `bitmaps::maps::fill_word` meets its contract. The loop's invariant: the rows of the bits passed, and the walk over those left.
use mathlib.Core.Path.{◌≡◌}
use Prim.Native.Nat.{◌+◌}
use lib.ListN.{length, get_or}
use lib.Bits.{bit_and}
use Rattle.records.specs.Record.{slot_words, mask}
use Rattle.bitmaps.specs.Rows.{RowsOf, total, Walk}
use Rattle.bitmaps.proofs.maps.fill_word.Given as goal

abbrev pub invariant-loop-left : goal.invariant-loop-left
invariant-loop-left l = (length l.others ≡ length l.initial.others) × (length l.own ≡ length l.initial.own) × RowsOf l.width l.table l.places l.count l.slot l.others l.own l.used
    × Walk (bit_and (mask l.width (slot_words l.width l.table l.slot) l.word) (get_or l.chosen l.word 0)) l.left l.used (total l.chosen (l.word + 1))

abbrev pub decreases-loop-left : goal.decreases-loop-left
decreases-loop-left l = l.left
