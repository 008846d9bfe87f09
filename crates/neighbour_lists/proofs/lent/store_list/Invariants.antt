-- `neighbour_lists::lent::store_list` meets its contract.
-- The numbers below the loop's index are stored, the others are as they were, and whether one of those below differed is told.
use mathlib.Core.Path.{◌≡◌}
use Prim.Native.Nat.{◌≤◌}
use lib.ListN.{length}
use Rattle.neighbour_lists.specs.Lists.{differing}
use Rattle.neighbour_lists.proofs.LentLaws.{Stored}
use Rattle.neighbour_lists.proofs.lent.store_list.Given as goal

abbrev pub invariant-loop-index : goal.invariant-loop-index
invariant-loop-index l = (l.index ≤ length l.initial.list) × (length l.list ≡ length l.initial.list) × Stored l.near l.initial.list l.index l.list × (l.changed ≡ differing l.near l.initial.list l.index)
