-- `bitmaps::maps::fill_rows` meets its contract.
-- Without places there are no rows. A width that is not 2 is 5.
use native.Mathlib.Omega.{arith}
use Rattle.records.proofs.WidthsLaws.{other_width}
use Rattle.bitmaps.proofs.maps.fill_rows.Goals as goal

pub returns-then-count-eq0 : goal.returns-then-count-eq0
returns-then-count-eq0 c = (omega arith, λ m h. absurd (omega arith))

pub fill_rows_by-requires : goal.fill_rows_by-requires
fill_rows_by-requires c = rw c.if-width-eq-NARROW.true at c.requires

pub returns-then-width-eq-NARROW : goal.returns-then-width-eq-NARROW
returns-then-width-eq-NARROW c = rw c.if-width-eq-NARROW.true c.fill_rows_by.ensures

pub fill_rows_by-requires-2 : goal.fill_rows_by-requires-2
fill_rows_by-requires-2 c =
    rw (other_width c.requires.width.0 c.if-width-eq-NARROW.false) at c.requires

pub returns : goal.returns
returns c = rw (other_width c.requires.width.0 c.if-width-eq-NARROW.false) c.fill_rows_by-2.ensures
