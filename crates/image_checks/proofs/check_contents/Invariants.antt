-- `image_checks::check_contents` meets its contract.
-- Those below the loop's pass, in turn.
use Rattle.image.specs.Checks.{check_entry}
use Rattle.image.proofs.ChecksLaws.{PassBelow}
use Rattle.image_checks.proofs.check_contents.Given as goal

abbrev pub invariant-loop-entry : goal.invariant-loop-entry
invariant-loop-entry l = PassBelow (check_entry l.width l.image l.slots l.rules) l.rules l.entry
