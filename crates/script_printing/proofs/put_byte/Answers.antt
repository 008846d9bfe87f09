-- `script_printing::put_byte` meets its contract.
-- A store at a place prints one byte.
use Rattle.script_printing.specs.PrintingLaws.{printed_one}
use Rattle.script_printing.proofs.put_byte.Goals as goal

pub returns : goal.returns
returns c = printed_one c.args.out.now c.args.at c.args.byte c.requires
