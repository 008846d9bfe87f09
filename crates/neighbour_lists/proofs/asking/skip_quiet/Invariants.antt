-- `neighbour_lists::asking::skip_quiet` meets its contract. The loop's invariant: the slots dropped so far are quiet.
use Rattle.neighbour_lists.specs.Lists.{precedes_slot, misordered_slots}
use Rattle.neighbour_lists.specs.Row.{Skipped}
use Rattle.neighbour_lists.proofs.asking.skip_quiet.Given as goal

abbrev pub invariant-loop-left : goal.invariant-loop-left
invariant-loop-left l = Skipped (precedes_slot l.mode.width l.mode.uncounted l.table) (misordered_slots l.mode.width l.mode.uncounted l.table) l.near l.later l.block l.some l.left

abbrev pub decreases-loop-left : goal.decreases-loop-left
decreases-loop-left l = l.left
