-- `table_checks::first_unsound` meets its contract.
-- A width that is not 2 is 5; the search goes on where the screen ended.
use Rattle.records.proofs.WidthsLaws.{other_width}
use Rattle.table_checks.proofs.first_unsound.Goals as goal

pub skip_plain-requires : goal.skip_plain-requires
skip_plain-requires c = rw c.if-width-eq-NARROW.true at c.requires

pub first_unsound_by-requires : goal.first_unsound_by-requires
first_unsound_by-requires c = (rw c.if-width-eq-NARROW.true at c.requires, c.skip_plain.ensures)

pub returns-then-width-eq-NARROW : goal.returns-then-width-eq-NARROW
returns-then-width-eq-NARROW c = rw c.if-width-eq-NARROW.true c.first_unsound_by.ensures

pub skip_plain-requires-2 : goal.skip_plain-requires-2
skip_plain-requires-2 c = rw (other_width c.requires c.if-width-eq-NARROW.false) at c.requires

pub first_unsound_by-requires-2 : goal.first_unsound_by-requires-2
first_unsound_by-requires-2 c =
    (rw (other_width c.requires c.if-width-eq-NARROW.false) at c.requires, c.skip_plain-2.ensures)

pub returns : goal.returns
returns c = rw (other_width c.requires c.if-width-eq-NARROW.false) c.first_unsound_by-2.ensures
