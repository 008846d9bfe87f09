-- `step_checks::check_write` meets its contract.
-- The rule is looked at where one is put in, then the write.
use mathlib.Core.Path.{refl, sym, ap, ◌∙◌}
use Rattle.records.proofs.Laws.{is_refusal}
use Rattle.records.specs.Verdict.{Pass, Fail, checked}
use Rattle.carrying.proofs.StepsLaws.{write_declined, write_fits, write_unfit}
use Rattle.step_checks.proofs.check_write.Goals as goal

pub returns-in_err-check_put : goal.returns-in_err-check_put
returns-in_err-check_put c = ap checked (is_refusal _ c.from_residual.ensures.1) ∙ write_declined _ _ _ _ _ {x = Fail _ _} c.in_err-check_put.ensures refl

pub word_fits-requires : goal.word_fits-requires
word_fits-requires c =
    (c.requires.0, c.requires.1, sym c.in_ok-check_put.ensures)

pub returns-then-word_fits : goal.returns-then-word_fits
returns-then-word_fits c = write_fits _ _ _ _ _ {x = Pass} c.in_ok-check_put.ensures refl c.word_fits.ensures c.if-word_fits.true

pub returns : goal.returns
returns c = write_unfit _ _ _ _ _ {x = Pass} c.in_ok-check_put.ensures refl c.word_fits.ensures c.if-word_fits.false
