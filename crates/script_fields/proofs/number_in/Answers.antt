-- `script_fields::number_in` meets its contract.
-- Each return is one of the cases of the definition.
use native.Mathlib.Omega.{arith}
use mathlib.Core.Path.{sym, ◌∙◌}
use Rattle.script_fields.proofs.FieldsLaws.{number_none, number_long, number_other, digits_option}
use Rattle.script_fields.proofs.number_in.Goals as goal

pub returns-then-field-lt1 : goal.returns-then-field-lt1
returns-then-field-lt1 c = rw (← number_none c.args.field.now c.if-field-lt1.true)

pub returns-then-field-gt10 : goal.returns-then-field-gt10
returns-then-field-gt10 c = rw (← number_long c.args.field.now c.if-field-gt10.true)

pub returns-then-not-digits : goal.returns-then-not-digits
returns-then-not-digits c =
    rw (← number_other c.args.field.now (omega arith) (omega arith) (sym c.all_symbols-digits.ensures ∙ c.if-not-digits.true))

pub returns : goal.returns
returns c =
    let digits = sym c.all_symbols-digits.ensures ∙ c.if-not-digits.false in
    c.ok.ensures.value ∙ digits_option c.args.field.now (omega arith) (omega arith) digits _ c.decimal_of-value.ensures _ c.try_from.ensures
