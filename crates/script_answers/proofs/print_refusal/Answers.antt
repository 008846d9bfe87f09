-- `script_answers::print_refusal` meets its contract.
-- A number of 32 bits and one of 64 bits have at most 30 digits.
use native.Mathlib.Omega.{arith}
use Rattle.script_printing.specs.PrintingLaws.{printed_shown}
use Rattle.script_printing.specs.PrintedLinesLaws.{length_two, digits_10, digits_20}
use Rattle.script_answers.specs.Answers.{refusal_bytes}
use Rattle.script_answers.proofs.print_refusal.Goals as goal

pub line_of_two-requires : goal.line_of_two-requires
line_of_two-requires c =
    let args = c.args in
    let fits = c.ranges in
    omega (arith, length_two 82 args.number args.spot, digits_10 args.number (omega arith), digits_20 args.spot (omega arith))

pub returns : goal.returns
returns c =
    let args = c.args in
    printed_shown args.out.now (refusal_bytes args.number args.spot) c.line_of_two.result c.line_of_two.new.out c.line_of_two.ensures
