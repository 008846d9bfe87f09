-- `list_updates::place_along` meets its contract.
use Rattle.list_updates.proofs.place_along.Goals as goal

pub returns-then-up : goal.returns-then-up
returns-then-up c = rw c.if-up.true

pub returns-else-up : goal.returns-else-up
returns-else-up c = rw c.if-up.false
