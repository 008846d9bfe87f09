-- `saves::save` meets its contract.
-- Where the width is not one of the two nothing is written; else the call at that width answers.
use mathlib.Core.Path.{refl, sym, ap, ◌∙◌}
use lib.ListN.{length}
use Rattle.records.specs.Verdict.{Pass, Fail}
use Rattle.records.proofs.Laws.{is_refusal}
use Rattle.records.proofs.WidthsLaws.{width_law, call_refused, call_answered}
use Rattle.image.specs.Answers.{save_told, save_answer, save_buffer}
use Rattle.saves.proofs.save.Goals as goal

pub returns-in_err-check_width : goal.returns-in_err-check_width
returns-in_err-check_width c =
    let a = c.args in
    let both = call_refused {x = Fail _ _} (save_answer a.mode.width a.mode.uncounted a.table.now (length a.image.now)) (save_buffer a.mode.width a.mode.uncounted a.table.now a.image.now) a.image.now
    c.in_err-check_width.ensures refl in
    record { result_value = ap save_told (is_refusal _ c.from_residual.ensures.1) ∙ both.0; image_after = both.1 }

pub save_at-requires : goal.save_at-requires
save_at-requires c = (width_law _).0 (sym c.in_ok-check_width.ensures)

pub returns : goal.returns
returns c =
    let both = call_answered {x = Pass} c.args.image.now c.in_ok-check_width.ensures refl (c.save_at.ensures.result_value, c.save_at.ensures.image_after) in record { result_value = both.0; image_after = both.1 }
