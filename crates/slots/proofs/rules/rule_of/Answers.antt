-- `slots::rules::rule_of` meets its contract.
-- Its fields are the halves and words that the definition names.
use Rattle.records.specs.Record.{rule_of, listed}
use Rattle.slots.proofs.rules.rule_of.Goals as goal

pub returns : goal.returns
unfolding rule_of listed
returns c = rw (c.lower_half.ensures, c.priority_of.ensures, c.upper_half.ensures)
