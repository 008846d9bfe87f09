-- `neighbours::checks::after_a` meets its contract.
-- A width that is not 2 is 5.
use Rattle.records.proofs.WidthsLaws.{other_width}
use Rattle.neighbours.proofs.checks.after_a.Goals as goal

pub after_a_by-requires : goal.after_a_by-requires
after_a_by-requires c = rw c.if-mode-eq-NARROW.true at c.requires

pub returns-then-mode-eq-NARROW : goal.returns-then-mode-eq-NARROW
returns-then-mode-eq-NARROW c = rw c.if-mode-eq-NARROW.true c.after_a_by.ensures

pub after_a_by-requires-2 : goal.after_a_by-requires-2
after_a_by-requires-2 c = rw (other_width c.requires.0 c.if-mode-eq-NARROW.false) at c.requires

pub returns : goal.returns
returns c = rw (other_width c.requires.0 c.if-mode-eq-NARROW.false) c.after_a_by-2.ensures
