-- `list_updates::search_along` meets its contract.
-- No slot before the loop's position bounds the slot.
use mathlib.Core.Path.{◌≡◌}
use Rattle.search.specs.Search.{NoneFrom}
use Rattle.records.specs.Order.{slots as slots_of}
use Rattle.list_updates.specs.Updates.{bounded_at}
use Rattle.list_updates.proofs.search_along.Given as goal

abbrev pub invariant-loop-position : goal.invariant-loop-position
invariant-loop-position l = (l.slots ≡ slots_of l.mode.width l.table) × NoneFrom (bounded_at l.mode.width l.mode.uncounted l.table l.up l.slot) l.from (slots_of l.mode.width l.table) l.position
