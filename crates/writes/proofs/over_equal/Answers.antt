-- `writes::over_equal` meets its contract.
-- The slot is asked for only where it exists.
use mathlib.Core.Path.{◌∙◌}
use borrow.Author.Tests.{lt-ltb, le-ltb}
use Rattle.carrying.specs.Carrying.{over_equal}
use Rattle.writes.proofs.over_equal.Goals as goal

pub equal_to_given-requires : goal.equal_to_given-requires
equal_to_given-requires c =
    (c.requires.0, rw c.slot_count.ensures at c.if-to-slot_count.true, c.requires.1, c.requires.2)

pub returns-then-to-slot_count : goal.returns-then-to-slot_count
unfolding over_equal
returns-then-to-slot_count c = rw (lt-ltb _ _ (rw c.slot_count.ensures at c.if-to-slot_count.true)) c.equal_to_given.ensures

pub returns-else-to-slot_count : goal.returns-else-to-slot_count
unfolding over_equal
returns-else-to-slot_count c = le-ltb _ _ c.if-to-slot_count.false ∙ rw (le-ltb _ _ (rw c.slot_count.ensures at c.if-to-slot_count.false))
