-- `script_turns::take_turn` meets its contract.
-- A line that is complete is run, any other is held.
use Rattle.script_turns.specs.ReadingLaws.{turned_complete, turned_begun}
use Rattle.script_turns.proofs.take_turn.Goals as goal

pub returns-then-taken : goal.returns-then-taken
returns-then-taken c =
    let a = c.args in
    let s = c.slots_in in
    turned_complete a.memory.now a.line.now a.block.now a.place a.from c.take_bytes-taken.result c.take_bytes-taken.new.line s.result c.take_bytes-taken.ensures.value c.take_bytes-taken.ensures.line_after s.ensures c.if-taken.true c.run_held.ensures

pub returns : goal.returns
returns c =
    let a = c.args in
    let s = c.slots_in in
    turned_begun a.memory.now a.line.now a.block.now a.place a.from c.take_bytes-taken.result c.take_bytes-taken.new.line s.result c.take_bytes-taken.ensures.value c.take_bytes-taken.ensures.line_after s.ensures a.out.now c.if-taken.false
