-- `script_turns::slots_in` meets its contract.
-- The memory has room for 1,024 slots.
use Rattle.script.proofs.ScriptLaws.{slots_present}
use Rattle.script_turns.proofs.slots_in.Goals as goal

pub returns : goal.returns
returns c =
    let a = c.args in
    slots_present a.memory.now a.slots c.slots_present.result c.requires c.slots_present.ensures
