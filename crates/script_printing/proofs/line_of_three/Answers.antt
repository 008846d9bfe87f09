-- `script_printing::line_of_three` meets its contract.
-- The letter, and then its fields.
use mathlib.Core.List.{[], ◌∷◌}
use native.Mathlib.Omega.{arith}
use Rattle.script_printing.specs.PrintedLines.{printed_fields}
use Rattle.script_printing.specs.PrintingLaws.{room_first, room_next, both_printed}
use Rattle.script_printing.proofs.line_of_three.Goals as goal

pub put_byte-next-requires : goal.put_byte-next-requires
put_byte-next-requires c =
    omega (arith, room_first c.args.out.now c.args.at (c.args.letter ∷ []) (printed_fields (c.args.first ∷ c.args.second ∷ c.args.third ∷ [])) c.requires)

pub last_three-requires : goal.last_three-requires
last_three-requires c =
    room_next c.args.out.now c.args.at (c.args.letter ∷ []) (printed_fields (c.args.first ∷ c.args.second ∷ c.args.third ∷ [])) c.requires c.put_byte-next.ensures c.put_byte-next.auto.out

pub returns : goal.returns
returns c =
    both_printed c.args.out.now c.args.at (c.args.letter ∷ []) (printed_fields (c.args.first ∷ c.args.second ∷ c.args.third ∷ [])) c.requires c.put_byte-next.ensures c.last_three.ensures
