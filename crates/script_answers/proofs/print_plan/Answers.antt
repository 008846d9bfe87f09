-- `script_answers::print_plan` meets its contract.
-- The buffer has room for the longest plan.
use Rattle.script_printing.specs.PrintingLaws.{printed_shown}
use Rattle.script_answers.specs.Answers.{plan_bytes}
use Rattle.script_answers.proofs.print_plan.Goals as goal

pub returns : goal.returns
returns c =
    let args = c.args in
    printed_shown args.out.now (plan_bytes args.words.now) c.put_plan.result c.put_plan.new.out c.put_plan.ensures
