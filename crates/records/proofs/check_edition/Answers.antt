-- `records::check_edition` meets its contract.
-- The test of the code is the definition's.
use Rattle.records.specs.Editions.{known_edition, check_edition}
use Rattle.records.proofs.check_edition.Goals as goal

pub returns-then-edition : goal.returns-then-edition
unfolding check_edition known_edition
returns-then-edition c = rw c.if-edition.true

pub returns : goal.returns
unfolding check_edition known_edition
returns c = rw c.if-edition.false
