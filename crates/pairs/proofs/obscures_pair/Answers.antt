-- `pairs::obscures_pair` meets its contract.
-- A width that is not 2 is 5.
use Rattle.records.proofs.WidthsLaws.{other_width}
use Rattle.pairs.proofs.obscures_pair.Goals as goal

pub obscures_by-requires : goal.obscures_by-requires
obscures_by-requires c = rw c.if-width-eq-NARROW.true at c.requires

pub returns-then-width-eq-NARROW : goal.returns-then-width-eq-NARROW
returns-then-width-eq-NARROW c = rw c.if-width-eq-NARROW.true c.obscures_by.ensures

pub obscures_by-requires-2 : goal.obscures_by-requires-2
obscures_by-requires-2 c = rw (other_width c.requires.0 c.if-width-eq-NARROW.false) at c.requires

pub returns : goal.returns
returns c = rw (other_width c.requires.0 c.if-width-eq-NARROW.false) c.obscures_by-2.ensures
