-- `list_updates::update_along` meets its contract.
-- The slots at positions below the loop's have their numbers, the others are as they were; the position's slot is asked.
use mathlib.Core.Path.{◌≡◌}
use mathlib.Core.Bool.{true}
use Prim.Native.Nat.{◌-◌, ◌≤◌, ◌<◌}
use lib.ListN.{length}
use Rattle.positions.specs.Positions.{slot_at}
use Rattle.records.specs.Record.{slot_words, empty}
use Rattle.records.specs.Order.{slots as slots_of}
use Rattle.list_updates.specs.Updates.{asks_at}
use Rattle.list_updates.specs.AlongLaws.{Updated}
use Rattle.list_updates.proofs.update_along.Given as goal

abbrev pub invariant-loop-position : goal.invariant-loop-position
invariant-loop-position l = (l.slots ≡ slots_of l.mode.width l.table) × (l.end ≡ slot_at (slots_of l.mode.width l.table) l.up l.written) × (l.vacant ≡ empty l.mode.width (slot_words l.mode.width l.table l.written))
    × (l.position ≤ l.end) × (length l.list ≡ length l.initial.list) × Updated l.mode.width l.mode.uncounted l.table l.up l.initial.list l.list l.position
    × (l.position < l.end → asks_at l.mode.width l.table l.list l.written l.vacant l.up l.position ≡ true)

abbrev pub decreases-loop-position : goal.decreases-loop-position
decreases-loop-position l = l.end - l.position
