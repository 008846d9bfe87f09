-- `script_printing::put_field` meets its contract.
-- A space, and then the digits.
use native.Mathlib.Omega.{arith}
use mathlib.Core.List.{[], ◌∷◌}
use Rattle.script_text.specs.Decimal.{digits_of}
use Rattle.script_printing.specs.PrintingLaws.{room_first, room_next, both_printed}
use Rattle.script_printing.proofs.put_field.Goals as goal

pub put_byte-next-requires : goal.put_byte-next-requires
put_byte-next-requires c =
    omega (arith, room_first c.args.out.now c.args.at (32 ∷ []) (digits_of c.args.number) c.requires)

pub put_decimal-requires : goal.put_decimal-requires
put_decimal-requires c =
    room_next c.args.out.now c.args.at (32 ∷ []) (digits_of c.args.number) c.requires c.put_byte-next.ensures c.put_byte-next.auto.out

pub returns : goal.returns
returns c =
    both_printed c.args.out.now c.args.at (32 ∷ []) (digits_of c.args.number) c.requires c.put_byte-next.ensures c.put_decimal.ensures
