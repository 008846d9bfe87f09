-- `loads::load` meets its contract.
-- Where the width is not one of the two nothing is written; else the call at that width answers.
use mathlib.Core.Path.{refl, sym, ap, ◌∙◌}
use Rattle.records.specs.Verdict.{Pass, Fail}
use Rattle.records.proofs.Laws.{is_refusal}
use Rattle.records.proofs.WidthsLaws.{width_law, call_refused, call_answered}
use Rattle.image.specs.Answers.{load_told, load_answer, load_table}
use Rattle.loads.proofs.load.Goals as goal

pub returns-in_err-check_width : goal.returns-in_err-check_width
returns-in_err-check_width c =
    let a = c.args in
    let both = call_refused {x = Fail _ _} (load_answer a.mode.width a.mode.uncounted a.image.now a.table.now) (load_table a.mode.width a.mode.uncounted a.image.now a.table.now) a.table.now
    c.in_err-check_width.ensures refl in
    record { result_value = ap load_told (is_refusal _ c.from_residual.ensures.1) ∙ both.0; table_after = both.1 }

pub load_at-requires : goal.load_at-requires
load_at-requires c = (width_law _).0 (sym c.in_ok-check_width.ensures)

pub returns : goal.returns
returns c =
    let both = call_answered {x = Pass} c.args.table.now c.in_ok-check_width.ensures refl (c.load_at.ensures.result_value, c.load_at.ensures.table_after) in record { result_value = both.0; table_after = both.1 }
