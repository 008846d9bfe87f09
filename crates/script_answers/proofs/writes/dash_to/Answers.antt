-- `script_answers::writes::dash_to` meets its contract.
-- The dash, and then the slot.
use mathlib.Core.List.{[], ◌∷◌}
use Rattle.script_printing.specs.PrintedLines.{printed_fields}
use Rattle.script_printing.specs.PrintingLaws.{room_first, room_next, both_printed}
use Rattle.script_answers.specs.Answers.{dash}
use Rattle.script_answers.proofs.writes.dash_to.Goals as goal

pub put_dash-next-requires : goal.put_dash-next-requires
put_dash-next-requires c =
    room_first c.args.out.now c.args.at (dash) (printed_fields (c.args.to ∷ [])) c.requires

pub last_field-requires : goal.last_field-requires
last_field-requires c =
    room_next c.args.out.now c.args.at (dash) (printed_fields (c.args.to ∷ [])) c.requires c.put_dash-next.ensures c.put_dash-next.auto.out

pub returns : goal.returns
returns c =
    both_printed c.args.out.now c.args.at (dash) (printed_fields (c.args.to ∷ [])) c.requires c.put_dash-next.ensures c.last_field.ensures
