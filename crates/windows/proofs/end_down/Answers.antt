-- `windows::end_down` meets its contract.
-- A number that is no slot's stands for no dependant.
use Rattle.windows.specs.WindowsLaws.{end_after_slot, end_after_none}
use Rattle.windows.proofs.end_down.Goals as goal

pub returns-then-next-slots : goal.returns-then-next-slots
returns-then-next-slots c = end_after_slot _ _ c.if-next-slots.true

pub returns-else-next-slots : goal.returns-else-next-slots
returns-else-next-slots c = end_after_none _ _ c.if-next-slots.false
