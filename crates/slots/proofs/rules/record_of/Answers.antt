-- `slots::rules::record_of` meets its contract.
-- Its six words are those of the definition, once the widened fields are read.
use Rattle.records.specs.Record.{record_of, listed}
use Rattle.slots.proofs.rules.record_of.Goals as goal

pub returns : goal.returns
unfolding record_of listed
returns c = rw (c.from-3.ensures, c.from-2.ensures, c.from.ensures)
