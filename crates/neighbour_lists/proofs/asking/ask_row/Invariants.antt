-- `neighbour_lists::asking::ask_row` meets its contract. The loop's invariant: the row and the marks, the blocks from `block` on done.
use mathlib.Core.Path.{◌≡◌}
use Prim.Native.Nat.{◌≤◌}
use lib.ListN.{length}
use Rattle.neighbour_lists.specs.Lists.{precedes_slot, misordered_slots, rank_at, occupied_at}
use Rattle.neighbour_lists.specs.Row.{InRow, Marks}
use Rattle.neighbour_lists.proofs.asking.ask_row.Given as goal

abbrev pub invariant-loop-block : goal.invariant-loop-block
invariant-loop-block l = (length l.near ≡ length l.initial.near) × (length l.free ≡ length l.initial.free) × (l.block ≤ 16) × InRow (precedes_slot l.mode.width l.mode.uncounted l.table) (misordered_slots l.mode.width l.mode.uncounted l.table) l.near l.later l.block 0 l.bad
    × Marks (rank_at l.mode.width l.table) (occupied_at l.mode.width l.table) l.near l.full l.free l.low l.later
