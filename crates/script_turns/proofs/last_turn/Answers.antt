-- `script_turns::last_turn` meets its contract.
-- A line that stands there is run.
use Rattle.script_turns.specs.ReadingLaws.{turned_last, turned_end}
use Rattle.script_turns.proofs.last_turn.Goals as goal

pub returns-then-line_stands : goal.returns-then-line_stands
returns-then-line_stands c =
    let a = c.args in
    turned_last a.memory.now a.line.now a.place c.line_stands.ensures c.if-line_stands.true c.run_held.ensures

pub returns : goal.returns
returns c =
    let a = c.args in
    turned_end a.memory.now a.line.now a.place c.line_stands.ensures c.slots_in.result c.slots_in.ensures a.out.now c.if-line_stands.false
