-- `neighbours::checks::check_crossed` meets its contract.
-- The comparison is the definition's.
use Rattle.neighbours.proofs.NeighboursLaws.{crossed_yes, crossed_no}
use Rattle.neighbours.proofs.checks.check_crossed.Goals as goal

pub returns-then-dependant-after : goal.returns-then-dependant-after
returns-then-dependant-after c = crossed_yes _ _ c.if-dependant-after.true

pub returns : goal.returns
returns c = crossed_no _ _ c.if-dependant-after.false
