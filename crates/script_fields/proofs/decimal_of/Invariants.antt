-- `script_fields::decimal_of` meets its contract.
-- What has been read, followed by the digits left, always means the same number, which is below 10^10.
use mathlib.Core.Path.{◌≡◌}
use lib.ListN.{drop}
use Rattle.script_text.specs.Decimal.{decimal_on, decimal}
use Rattle.script_fields.proofs.decimal_of.Given as goal

abbrev pub invariant-loop-byte : goal.invariant-loop-byte
invariant-loop-byte l = decimal_on l.value (drop l.byte-index l.field) ≡ decimal l.field
