-- `script_printing::last_fields` meets its contract.
-- One field, and then the last.
use mathlib.Core.List.{[], ◌∷◌}
use Rattle.script_printing.specs.PrintedLines.{printed_field, printed_fields}
use Rattle.script_printing.specs.PrintingLaws.{room_first, room_next, both_printed}
use Rattle.script_printing.proofs.last_fields.Goals as goal

pub put_field-next-requires : goal.put_field-next-requires
put_field-next-requires c =
    room_first c.args.out.now c.args.at (printed_field c.args.first) (printed_fields (c.args.second ∷ [])) c.requires

pub last_field-requires : goal.last_field-requires
last_field-requires c =
    room_next c.args.out.now c.args.at (printed_field c.args.first) (printed_fields (c.args.second ∷ [])) c.requires c.put_field-next.ensures c.put_field-next.auto.out

pub returns : goal.returns
returns c =
    both_printed c.args.out.now c.args.at (printed_field c.args.first) (printed_fields (c.args.second ∷ [])) c.requires c.put_field-next.ensures c.last_field.ensures
