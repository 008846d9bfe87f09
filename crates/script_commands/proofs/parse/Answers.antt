-- `script_commands::parse` meets its contract.
-- A line that is too long, one of one field, or a letter and what follows it.
use native.Mathlib.Omega.{arith}
use mathlib.Core.Path.{sym, ◌∙◌}
use lib.Seq.{length-take-le}
use Rattle.script_commands.specs.LineLaws.{line_long, line_one, line_letter, line_letterless}
use Rattle.script_commands.proofs.parse.Goals as goal

pub returns-then-line-gt256 : goal.returns-then-line-gt256
returns-then-line-gt256 c = line_long c.args.line.now c.if-line-gt256.true

pub returns-then-line-end : goal.returns-then-line-end
returns-then-line-end c = line_one c.args.line.now c.part_end-end.result c.part_end-end.ensures c.if-line-gt256.false c.if-line-end.true

pub slice_bounds-letter_of-end : goal.slice_bounds-letter_of-end
slice_bounds-letter_of-end c = sym (length-take-le c.part_end-end.result c.args.line.now (omega (arith, c.if-line-end.false)))

pub returns-in-Some : goal.returns-in-Some
returns-in-Some c =
    let end = c.part_end-end in
    c.after_letter.ensures ∙ line_letter c.args.line.now end.result c.in-Some.letter end.ensures c.if-line-gt256.false c.if-line-end.false c.in-Some.ensures

pub returns-in-None : goal.returns-in-None
returns-in-None c =
    let end = c.part_end-end in
    line_letterless c.args.line.now end.result end.ensures c.if-line-gt256.false c.if-line-end.false c.in-None.ensures
