-- `neighbours::checks::replaced_slot` meets its contract.
-- A width that is not 2 is 5.
use Rattle.records.proofs.WidthsLaws.{other_width}
use Rattle.neighbours.proofs.checks.replaced_slot.Goals as goal

pub replaced_slot_by-requires : goal.replaced_slot_by-requires
replaced_slot_by-requires c = rw c.if-mode-eq-NARROW.true at c.requires

pub returns-then-mode-eq-NARROW : goal.returns-then-mode-eq-NARROW
returns-then-mode-eq-NARROW c = rw c.if-mode-eq-NARROW.true c.replaced_slot_by.ensures

pub replaced_slot_by-requires-2 : goal.replaced_slot_by-requires-2
replaced_slot_by-requires-2 c = rw (other_width c.requires.0 c.if-mode-eq-NARROW.false) at c.requires

pub returns : goal.returns
returns c = rw (other_width c.requires.0 c.if-mode-eq-NARROW.false) c.replaced_slot_by-2.ensures
