-- `script_answers::writes::miss_line` meets its contract.
-- The letter, and then the newline.
use native.Mathlib.Omega.{arith}
use mathlib.Core.List.{[], ◌∷◌}
use Rattle.script_printing.specs.PrintingLaws.{room_first, room_next, both_printed}
use Rattle.script_answers.proofs.writes.miss_line.Goals as goal

pub put_byte-next-requires : goal.put_byte-next-requires
put_byte-next-requires c =
    omega (arith, room_first c.args.out.now c.args.at (77 ∷ []) (10 ∷ []) c.requires)

pub put_byte-requires : goal.put_byte-requires
put_byte-requires c =
    omega (arith, room_next c.args.out.now c.args.at (77 ∷ []) (10 ∷ []) c.requires c.put_byte-next.ensures c.put_byte-next.auto.out)

pub returns : goal.returns
returns c =
    both_printed c.args.out.now c.args.at (77 ∷ []) (10 ∷ []) c.requires c.put_byte-next.ensures c.put_byte.ensures
