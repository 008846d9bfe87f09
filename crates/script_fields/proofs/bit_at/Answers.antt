-- `script_fields::bit_at` meets its contract.
-- The test is the definition's; past the field's end there is no bit.
use mathlib.Core.Path.{sym, ap}
use Rattle.script_fields.specs.Fields.{one_if}
use Rattle.script_fields.proofs.FieldsLaws.{bit_past}
use Rattle.script_fields.proofs.bit_at.Goals as goal

pub returns-then-field-at : goal.returns-then-field-at
returns-then-field-at c = bit_past c.args.zeros c.args.field.now c.args.at c.if-field-at.true

pub returns-then-zeros-byte : goal.returns-then-zeros-byte
returns-then-zeros-byte c = sym (ap one_if c.if-zeros-byte.true)

pub returns : goal.returns
returns c = sym (ap one_if c.if-zeros-byte.false)
