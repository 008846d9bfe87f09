-- `table_checks::ids::lowest_twice` meets its contract.
-- A width that is not 2 is 5.
use Rattle.records.proofs.WidthsLaws.{other_width}
use Rattle.table_checks.proofs.ids.lowest_twice.Goals as goal

pub lowest_twice_by-requires : goal.lowest_twice_by-requires
lowest_twice_by-requires c = rw c.if-width-eq-NARROW.true at c.requires

pub returns-then-width-eq-NARROW : goal.returns-then-width-eq-NARROW
returns-then-width-eq-NARROW c = rw c.if-width-eq-NARROW.true c.lowest_twice_by.ensures

pub lowest_twice_by-requires-2 : goal.lowest_twice_by-requires-2
lowest_twice_by-requires-2 c = rw (other_width c.requires.width.0 c.if-width-eq-NARROW.false) at c.requires

pub returns : goal.returns
returns c = rw (other_width c.requires.width.0 c.if-width-eq-NARROW.false) c.lowest_twice_by-2.ensures
