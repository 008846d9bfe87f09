-- `pairs::masks_within` meets its contract.
-- The mask lies within the other's in each word below the loop's.
use Rattle.search.specs.Search.{AllBelow}
use Rattle.records.specs.Record.{slot_words}
use Rattle.records.specs.Order.{mask_within_at}
use Rattle.pairs.proofs.masks_within.Given as goal

abbrev pub invariant-loop-index : goal.invariant-loop-index
invariant-loop-index l = AllBelow (mask_within_at l.width (slot_words l.width l.table l.slot) (slot_words l.width l.others l.other)) l.width l.index
