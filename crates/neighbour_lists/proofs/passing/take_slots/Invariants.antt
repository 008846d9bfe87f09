-- `neighbour_lists::passing::take_slots` meets its contract. The loop's invariant: the slots before `slot` are taken, and `first` is the
-- lowest of them that is out of order, or their number.
use mathlib.Core.Path.{◌≡◌}
use Prim.Native.Nat.{◌≤◌}
use lib.ListN.{length}
use Rattle.search.specs.Search.{least}
use Rattle.records.specs.Checks.{disorder_at}
use Rattle.neighbour_lists.specs.Pass.{Taken}
use Rattle.neighbour_lists.proofs.passing.take_slots.Given as goal

abbrev pub invariant-loop-slot : goal.invariant-loop-slot
invariant-loop-slot l = (l.slot ≤ l.slots) × (l.first ≡ least (disorder_at l.mode.width l.mode.uncounted l.table) l.slot 0)
    × (length l.near ≡ length l.initial.near) × (length l.full ≡ length l.initial.full) × (length l.free ≡ length l.initial.free) × (length l.low ≡ length l.initial.low) × (length l.maps ≡ length l.initial.maps)
    × (length l.others ≡ length l.initial.others) × (length l.own ≡ length l.initial.own)
    × Taken l.mode.width l.mode.uncounted l.table l.places l.near l.full l.free l.low l.maps l.slot
