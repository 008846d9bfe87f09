-- `image_checks::check_fields` meets its contract.
-- The image is looked at where the table has a shape.
use mathlib.Core.Path.{sym, ap, ◌∙◌}
use native.Mathlib.Omega.{arith}
use Rattle.records.specs.Verdict.{checked}
use Rattle.records.proofs.Laws.{is_refusal, stops, goes_on}
use Rattle.records.proofs.EntriesLaws.{shaped_slots}
use Rattle.image.specs.Checks.{image_checks}
use Rattle.image_checks.proofs.check_fields.Goals as goal

pub returns-in_err-check_shape : goal.returns-in_err-check_shape
returns-in_err-check_shape c = ap checked (is_refusal _ c.from_residual.ensures.1) ∙ stops _ c.in_err-check_shape.ensures

pub check_image-requires : goal.check_image-requires
check_image-requires c =
    let a = c.args in
    (c.requires, omega (arith, c.slot_count.ensures, (shaped_slots a.width a.table.now (sym c.in_ok-check_shape.ensures)).1))

pub returns : goal.returns
returns c =
    let a = c.args in
    goes_on c.in_ok-check_shape.ensures (c.check_image.ensures ∙ ap (image_checks a.width a.image.now) c.slot_count.ensures)
