-- `script_printing::last_field` meets its contract.
-- The field, and then the newline.
use native.Mathlib.Omega.{arith}
use mathlib.Core.List.{[], ◌∷◌}
use Rattle.script_printing.specs.PrintedLines.{printed_field}
use Rattle.script_printing.specs.PrintingLaws.{room_first, room_next, both_printed}
use Rattle.script_printing.proofs.last_field.Goals as goal

pub put_field-next-requires : goal.put_field-next-requires
put_field-next-requires c =
    room_first c.args.out.now c.args.at (printed_field c.args.number) (10 ∷ []) c.requires

pub put_byte-requires : goal.put_byte-requires
put_byte-requires c =
    omega (arith, room_next c.args.out.now c.args.at (printed_field c.args.number) (10 ∷ []) c.requires c.put_field-next.ensures c.put_field-next.auto.out)

pub returns : goal.returns
returns c =
    both_printed c.args.out.now c.args.at (printed_field c.args.number) (10 ∷ []) c.requires c.put_field-next.ensures c.put_byte.ensures
