-- `script_printing::line_of_one` meets its contract.
-- The letter, and then its field.
use native.Mathlib.Omega.{arith}
use mathlib.Core.List.{[], ◌∷◌}
use Rattle.script_printing.specs.PrintedLines.{printed_fields}
use Rattle.script_printing.specs.PrintingLaws.{room_first, room_next, both_printed}
use Rattle.script_printing.proofs.line_of_one.Goals as goal

pub put_byte-next-requires : goal.put_byte-next-requires
put_byte-next-requires c =
    omega (arith, room_first c.args.out.now c.args.at (c.args.letter ∷ []) (printed_fields (c.args.number ∷ [])) c.requires)

pub last_field-requires : goal.last_field-requires
last_field-requires c =
    room_next c.args.out.now c.args.at (c.args.letter ∷ []) (printed_fields (c.args.number ∷ [])) c.requires c.put_byte-next.ensures c.put_byte-next.auto.out

pub returns : goal.returns
returns c =
    both_printed c.args.out.now c.args.at (c.args.letter ∷ []) (printed_fields (c.args.number ∷ [])) c.requires c.put_byte-next.ensures c.last_field.ensures
