-- `records::check_width` meets its contract.
-- The test of the code is the definition's.
use Rattle.records.specs.Widths.{known, check_width}
use Rattle.records.proofs.check_width.Goals as goal

pub returns-then-width : goal.returns-then-width
unfolding check_width known
returns-then-width c = rw c.if-width.true

pub returns : goal.returns
unfolding check_width known
returns c = rw c.if-width.false
