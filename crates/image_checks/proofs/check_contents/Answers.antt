-- `image_checks::check_contents` meets its contract.
-- Those below the loop's pass, in turn.
use mathlib.Core.Path.{refl, ap, ◌∙◌}
use native.Mathlib.Omega.{arith}
use Rattle.records.specs.Verdict.{checked, Pass, Fail}
use Rattle.records.proofs.Laws.{is_refusal}
use Rattle.image.specs.Checks.{check_contents}
use Rattle.image.proofs.ChecksLaws.{pass_more, turn_fails, turn_passes}
use Rattle.image_checks.proofs.check_contents.Goals as goal

pub loop-entry-init : goal.loop-entry-init
loop-entry-init c = c.skip_passing-entry.ensures

pub returns-in_err-check_entry : goal.returns-in_err-check_entry
unfolding check_contents
returns-in_err-check_entry c =
    ap checked (is_refusal _ c.from_residual.ensures.1) ∙ turn_fails _ {x = Fail _ _} _ _ c.loop-entry.invariant (omega arith) c.in_err-check_entry.ensures refl

pub loop-entry-preserved : goal.loop-entry-preserved
loop-entry-preserved c = pass_more _ {x = Pass} _ _ c.loop-entry.invariant (omega arith) c.in_ok-check_entry.ensures refl

pub returns : goal.returns
unfolding check_contents
returns c = turn_passes _ _ _ c.loop-entry.invariant (omega arith)
