-- `pairs::compare_slots` meets its contract.
-- The patterns overlap in each word below the loop's, and the flags tell of those words whether the one mask lies within the other.
use mathlib.Core.Path.{◌≡◌}
use Rattle.search.specs.Search.{all, AllBelow}
use Rattle.records.specs.Record.{slot_words}
use Rattle.records.specs.Order.{overlap_at, mask_within_at}
use Rattle.pairs.proofs.compare_slots.Given as goal

abbrev pub invariant-loop-index : goal.invariant-loop-index
invariant-loop-index l = AllBelow (overlap_at l.width (slot_words l.width l.table l.slot) (slot_words l.width l.others l.other)) l.width l.index
    × (l.first ≡ all (mask_within_at l.width (slot_words l.width l.table l.slot) (slot_words l.width l.others l.other)) l.index)
    × (l.second ≡ all (mask_within_at l.width (slot_words l.width l.others l.other) (slot_words l.width l.table l.slot)) l.index)
