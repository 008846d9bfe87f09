-- `table_checks::ids::fill_ids` meets its contract.
-- A width that is not 2 is 5.
use Rattle.records.proofs.WidthsLaws.{other_width}
use Rattle.table_checks.proofs.ids.fill_ids.Goals as goal

pub fill_ids_by-requires : goal.fill_ids_by-requires
fill_ids_by-requires c = rw c.if-width-eq-NARROW.true at c.requires

pub fill_ids_by-requires-else-width-eq-NARROW : goal.fill_ids_by-requires-else-width-eq-NARROW
fill_ids_by-requires-else-width-eq-NARROW c = rw (other_width c.requires.0 c.if-width-eq-NARROW.false) at c.requires

pub returns-then-width-eq-NARROW : goal.returns-then-width-eq-NARROW
returns-then-width-eq-NARROW c = rw c.if-width-eq-NARROW.true c.fill_ids_by.ensures

pub returns-else-width-eq-NARROW : goal.returns-else-width-eq-NARROW
returns-else-width-eq-NARROW c = rw (other_width c.requires.0 c.if-width-eq-NARROW.false) c.fill_ids_by-else-width-eq-NARROW.ensures
