-- `script_turns::run_held` meets its contract.
-- The bytes held are run as a line.
use mathlib.Core.Path.{sym}
use native.Mathlib.Omega.{arith}
use lib.Seq.{length-take-le}
use Rattle.script_turns.specs.ReadingLaws.{turned_run}
use Rattle.script_turns.proofs.run_held.Goals as goal

pub slice_bounds-run_line-end : goal.slice_bounds-run_line-end
slice_bounds-run_line-end c = sym (length-take-le _ c.args.line.now (omega (arith, c.bytes_held-count.ensures)))

pub returns : goal.returns
returns c = let a = c.args in turned_run a.memory.now a.line.now a.place a.next _ _ c.run_line-ran.result c.bytes_held-count.ensures c.next_number.ensures c.run_line-ran.ensures.left
