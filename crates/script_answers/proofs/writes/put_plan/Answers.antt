-- `script_answers::writes::put_plan` meets its contract.
-- The count's line has at most 7 bytes, and then come the words' lines.
use native.Mathlib.Omega.{arith}
use lib.ListN.{length}
use Rattle.script_printing.specs.PrintingLaws.{printed_then}
use Rattle.script_answers.specs.Answers.{plan_bytes}
use Rattle.script_answers.proofs.RoomLaws.{count_short}
use Rattle.script_answers.proofs.writes.put_plan.Goals as goal

pub line_of_one-next-requires : goal.line_of_one-next-requires
line_of_one-next-requires c =
    omega (arith, count_short (length c.args.words.now) c.requires.0, c.requires)

pub put_writes-requires : goal.put_writes-requires
put_writes-requires c =
    omega (arith, count_short (length c.args.words.now) c.requires.0, c.requires, c.line_of_one-next.ensures.place, c.line_of_one-next.auto.out)

pub returns : goal.returns
unfolding plan_bytes
returns c = printed_then c.line_of_one-next.ensures (omega arith) c.put_writes.ensures
