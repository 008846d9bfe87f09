-- `neighbour_lists::asking::ask_block` meets its contract. The loop's invariant: the row and the marks, the slots of the bits left not yet asked.
use mathlib.Core.Path.{◌≡◌}
use lib.ListN.{length}
use Rattle.neighbour_lists.specs.Lists.{precedes_slot, misordered_slots, rank_at, occupied_at}
use Rattle.neighbour_lists.specs.Row.{InRow, Marks, Inside}
use Rattle.neighbour_lists.proofs.asking.ask_block.Given as goal

abbrev pub invariant-loop-left : goal.invariant-loop-left
invariant-loop-left l = (length l.near ≡ length l.initial.near) × (length l.free ≡ length l.initial.free) × InRow (precedes_slot l.mode.width l.mode.uncounted l.table) (misordered_slots l.mode.width l.mode.uncounted l.table) l.near l.later l.block l.left l.bad
    × Marks (rank_at l.mode.width l.table) (occupied_at l.mode.width l.table) l.near l.full l.free l.low l.later × Inside l.later l.block l.left

abbrev pub decreases-loop-left : goal.decreases-loop-left
decreases-loop-left l = l.left
