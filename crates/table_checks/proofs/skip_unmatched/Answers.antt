-- `table_checks::skip_unmatched` meets its contract.
-- A width that is not 2 is 5.
use Rattle.records.proofs.WidthsLaws.{other_width}
use Rattle.table_checks.proofs.skip_unmatched.Goals as goal

pub skip_unmatched_by-requires : goal.skip_unmatched_by-requires
skip_unmatched_by-requires c = rw c.if-width-eq-NARROW.true at c.requires

pub returns-then-width-eq-NARROW : goal.returns-then-width-eq-NARROW
returns-then-width-eq-NARROW c = rw c.if-width-eq-NARROW.true c.skip_unmatched_by.ensures

pub skip_unmatched_by-requires-2 : goal.skip_unmatched_by-requires-2
skip_unmatched_by-requires-2 c = rw (other_width c.requires.0 c.if-width-eq-NARROW.false) at c.requires

pub returns : goal.returns
returns c = rw (other_width c.requires.0 c.if-width-eq-NARROW.false) c.skip_unmatched_by-2.ensures
