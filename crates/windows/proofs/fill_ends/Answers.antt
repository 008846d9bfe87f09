-- `windows::fill_ends` meets its contract.
-- A width that is not 2 is 5.
use Rattle.records.proofs.WidthsLaws.{other_width}
use Rattle.windows.proofs.fill_ends.Goals as goal

pub fill_ends_by-requires : goal.fill_ends_by-requires
fill_ends_by-requires c = rw c.if-mode-eq-NARROW.true at c.requires

pub fill_ends_by-requires-else-mode-eq-NARROW : goal.fill_ends_by-requires-else-mode-eq-NARROW
fill_ends_by-requires-else-mode-eq-NARROW c =
    rw (other_width c.requires.width.0 c.if-mode-eq-NARROW.false) at c.requires

pub returns-then-mode-eq-NARROW : goal.returns-then-mode-eq-NARROW
returns-then-mode-eq-NARROW c = rw c.if-mode-eq-NARROW.true c.fill_ends_by.ensures

pub returns-else-mode-eq-NARROW : goal.returns-else-mode-eq-NARROW
returns-else-mode-eq-NARROW c =
    rw (other_width c.requires.width.0 c.if-mode-eq-NARROW.false) c.fill_ends_by-else-mode-eq-NARROW.ensures
