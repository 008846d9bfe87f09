-- `list_updates::skip_unasked` meets its contract.
use mathlib.Core.Path.{◌≡◌}
use Rattle.search.specs.Search.{NoneFrom}
use Rattle.positions.specs.Positions.{slot_at}
use Rattle.records.specs.Order.{slots as slots_of}
use Rattle.list_updates.specs.Updates.{asks_at}
use Rattle.list_updates.proofs.skip_unasked.Given as goal

abbrev pub invariant-loop-position : goal.invariant-loop-position
invariant-loop-position l = (l.slots ≡ slots_of l.width l.table) × (l.end ≡ slot_at (slots_of l.width l.table) l.up l.written)
    × NoneFrom (asks_at l.width l.table l.list l.written l.vacant l.up) l.from (slot_at (slots_of l.width l.table) l.up l.written) l.position
