-- `script_answers::writes::put_in_line` meets its contract.
-- The letter, and then what follows it.
use native.Mathlib.Omega.{arith}
use mathlib.Core.List.{[], ◌∷◌, ◌++◌}
use Rattle.script_printing.specs.PrintedLines.{printed_fields}
use Rattle.script_printing.specs.PrintingLaws.{room_first, room_next, both_printed}
use Rattle.script_answers.specs.Answers.{dash}
use Rattle.script_answers.proofs.writes.put_in_line.Goals as goal

pub put_byte-next-requires : goal.put_byte-next-requires
put_byte-next-requires c =
    omega (arith, room_first c.args.out.now c.args.at (87 ∷ []) (dash ++ printed_fields (c.args.to ∷ [])) c.requires)

pub dash_to-requires : goal.dash_to-requires
dash_to-requires c =
    room_next c.args.out.now c.args.at (87 ∷ []) (dash ++ printed_fields (c.args.to ∷ [])) c.requires c.put_byte-next.ensures c.put_byte-next.auto.out

pub returns : goal.returns
returns c =
    both_printed c.args.out.now c.args.at (87 ∷ []) (dash ++ printed_fields (c.args.to ∷ [])) c.requires c.put_byte-next.ensures c.dash_to.ensures
