-- `script_answers::print_table` meets its contract.
-- A number of 32 bits has at most 10 digits.
use native.Mathlib.Omega.{arith}
use Rattle.script_printing.specs.PrintingLaws.{printed_shown}
use Rattle.script_printing.specs.PrintedLinesLaws.{length_one, digits_10}
use Rattle.script_answers.specs.Answers.{table_bytes}
use Rattle.script_answers.proofs.print_table.Goals as goal

pub line_of_one-requires : goal.line_of_one-requires
line_of_one-requires c =
    let args = c.args in
    let fits = c.ranges in
    omega (arith, length_one 78 args.slots, digits_10 args.slots (omega arith))

pub returns : goal.returns
returns c =
    let args = c.args in
    printed_shown args.out.now (table_bytes args.slots) c.line_of_one.result c.line_of_one.new.out c.line_of_one.ensures
