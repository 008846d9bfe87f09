-- `neighbours::checks::check_tie` meets its contract.
-- A width that is not 2 is 5.
use Rattle.records.proofs.WidthsLaws.{other_width}
use Rattle.neighbours.proofs.checks.check_tie.Goals as goal

pub check_tie_by-requires : goal.check_tie_by-requires
check_tie_by-requires c = rw c.if-mode-eq-NARROW.true at c.requires

pub returns-then-mode-eq-NARROW : goal.returns-then-mode-eq-NARROW
returns-then-mode-eq-NARROW c = rw c.if-mode-eq-NARROW.true c.check_tie_by.ensures

pub check_tie_by-requires-2 : goal.check_tie_by-requires-2
check_tie_by-requires-2 c = rw (other_width c.requires.0 c.if-mode-eq-NARROW.false) at c.requires

pub returns : goal.returns
returns c = rw (other_width c.requires.0 c.if-mode-eq-NARROW.false) c.check_tie_by-2.ensures
