-- `script_commands::after_letter` meets its contract.
-- One field is left, or more.
use native.Mathlib.Omega.{arith}
use mathlib.Core.Path.{sym, ap, ◌∙◌}
use lib.Seq.{length-take-le}
use Rattle.script_commands.specs.Commands.{after_letter}
use Rattle.script_commands.specs.LineLaws.{one_field, more_fields}
use Rattle.script_commands.proofs.after_letter.Goals as goal

pub returns-then-rest-end : goal.returns-then-rest-end
returns-then-rest-end c =
    let args = c.args in
    let end = c.part_end-end in
    c.short_command.ensures ∙ sym (ap (after_letter args.letter) (one_field args.rest.now end.result end.ensures c.if-rest-end.true))

pub slice_bounds-after_id-end : goal.slice_bounds-after_id-end
slice_bounds-after_id-end c = sym (length-take-le c.part_end-end.result c.args.rest.now (omega (arith, c.if-rest-end.false)))

pub returns : goal.returns
returns c =
    let args = c.args in
    let end = c.part_end-end in
    c.after_id.ensures ∙ sym (ap (after_letter args.letter) (more_fields args.rest.now end.result end.ensures c.if-rest-end.false))
