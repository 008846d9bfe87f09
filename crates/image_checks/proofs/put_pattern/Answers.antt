-- `image_checks::put_pattern` meets its contract.
-- A width that is not 2 is 5.
use Rattle.records.proofs.WidthsLaws.{other_width}
use Rattle.image_checks.proofs.put_pattern.Goals as goal

pub put_pattern_by-requires : goal.put_pattern_by-requires
put_pattern_by-requires c = rw c.if-width-eq-NARROW.true at c.requires

pub put_pattern_by-requires-else-width-eq-NARROW : goal.put_pattern_by-requires-else-width-eq-NARROW
put_pattern_by-requires-else-width-eq-NARROW c = rw (other_width c.requires.0 c.if-width-eq-NARROW.false) at c.requires

pub returns-then-width-eq-NARROW : goal.returns-then-width-eq-NARROW
returns-then-width-eq-NARROW c = rw c.if-width-eq-NARROW.true c.put_pattern_by.ensures

pub returns-else-width-eq-NARROW : goal.returns-else-width-eq-NARROW
returns-else-width-eq-NARROW c = rw (other_width c.requires.0 c.if-width-eq-NARROW.false) c.put_pattern_by-else-width-eq-NARROW.ensures
