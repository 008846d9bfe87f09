-- `image_checks::skip_passing` meets its contract.
-- Those below the loop's pass, in turn.
use mathlib.Core.Path.{◌≡◌}
use Rattle.image.specs.Checks.{lowest_slot, check_entry}
use Rattle.image.proofs.ChecksLaws.{PassBelow}
use Rattle.image_checks.proofs.skip_passing.Given as goal

abbrev pub invariant-loop-entry : goal.invariant-loop-entry
invariant-loop-entry l = PassBelow (check_entry l.width l.image l.slots l.rules) l.rules l.entry × (l.lowest ≡ lowest_slot l.image l.entry)
