-- `loads::load_at` meets its contract.
-- Wrong fields are refused; else the table meant goes through a working table.
use mathlib.Core.Path.{refl, sym, ap, ◌∙◌}
use Rattle.records.specs.Verdict.{Fail}
use Rattle.records.proofs.Laws.{is_refusal}
use Rattle.image.specs.Answers.{load_told}
use Rattle.image.proofs.LoadLaws.{load_wrong}
use Rattle.loads.proofs.load_at.Goals as goal

pub returns-in_err-check_fields : goal.returns-in_err-check_fields
returns-in_err-check_fields c =
    let a = c.args in
    let both = load_wrong a.mode.width a.mode.uncounted a.image.now a.table.now {x = Fail _ _} c.in_err-check_fields.ensures refl in
    record { result_value = ap load_told (is_refusal _ c.from_residual.ensures.1) ∙ both.0; table_after = both.1 }

pub load_sized-requires : goal.load_sized-requires
load_sized-requires c = record { width = c.requires; table_value = sym c.in_ok-check_fields.ensures }
