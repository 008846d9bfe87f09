-- `script_answers::print_hit` meets its contract.
-- Three numbers of 32 bits have at most 30 digits.
use native.Mathlib.Omega.{arith}
use Rattle.script_printing.specs.PrintingLaws.{printed_shown}
use Rattle.script_printing.specs.PrintedLinesLaws.{length_three, digits_10}
use Rattle.script_answers.specs.Answers.{hit_bytes}
use Rattle.script_answers.proofs.print_hit.Goals as goal

pub line_of_three-requires : goal.line_of_three-requires
line_of_three-requires c =
    let args = c.args in
    let fits = c.ranges in
    omega (arith, length_three 65 args.slot args.id args.action, digits_10 args.slot (omega arith), digits_10 args.id (omega arith), digits_10 args.action (omega arith))

pub returns : goal.returns
returns c =
    let args = c.args in
    printed_shown args.out.now (hit_bytes args.slot args.id args.action) c.line_of_three.result c.line_of_three.new.out c.line_of_three.ensures
