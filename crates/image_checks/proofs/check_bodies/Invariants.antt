-- `image_checks::check_bodies` meets its contract.
-- Those below the loop's pass, in turn.
use Rattle.image.specs.Checks.{check_body}
use Rattle.image.proofs.ChecksLaws.{PassBelow}
use Rattle.image_checks.proofs.check_bodies.Given as goal

abbrev pub invariant-loop-entry : goal.invariant-loop-entry
invariant-loop-entry l = PassBelow (check_body l.width l.image l.rules) l.rules l.entry
