-- `neighbours::checks::slot_b` meets its contract.
-- A width that is not 2 is 5.
use Rattle.records.proofs.WidthsLaws.{other_width}
use Rattle.neighbours.proofs.checks.slot_b.Goals as goal

pub slot_b_by-requires : goal.slot_b_by-requires
slot_b_by-requires c = rw c.if-mode-eq-NARROW.true at c.requires

pub returns-then-mode-eq-NARROW : goal.returns-then-mode-eq-NARROW
returns-then-mode-eq-NARROW c = rw c.if-mode-eq-NARROW.true c.slot_b_by.ensures

pub slot_b_by-requires-2 : goal.slot_b_by-requires-2
slot_b_by-requires-2 c = rw (other_width c.requires.0 c.if-mode-eq-NARROW.false) at c.requires

pub returns : goal.returns
returns c = rw (other_width c.requires.0 c.if-mode-eq-NARROW.false) c.slot_b_by-2.ensures
