-- `list_updates::reaches` meets its contract.
use borrow.Author.Tests.{eq-eqb, ne_eqb}
use Rattle.list_updates.specs.Updates.{reaches_slot}
use Rattle.list_updates.proofs.reaches.Goals.{else-up-via-then-up+else-number-ne-NO_NUMBER, else-up-via-else-up}
use Rattle.list_updates.proofs.reaches.Goals as goal

pub returns-then-number-ne-NO_NUMBER : goal.returns-then-number-ne-NO_NUMBER
unfolding reaches_slot
returns-then-number-ne-NO_NUMBER c = rw (c.if-up.true, ne_eqb _ _ c.if-number-ne-NO_NUMBER.true)

pub returns : goal.returns
unfolding reaches_slot
returns c =
    elim c.else-up.branch [
      | else-up-via-then-up+else-number-ne-NO_NUMBER w ↦ rw (w.if-up.true, eq-eqb _ _ w.if-number-ne-NO_NUMBER.false)
      | else-up-via-else-up w ↦ rw w.if-up.false
    ]
