-- `windows::end_up` meets its contract.
-- A number that is no slot's stands for no preceding rule.
use Rattle.windows.specs.WindowsLaws.{end_before_slot, end_before_none}
use Rattle.windows.proofs.end_up.Goals as goal

pub returns-then-before-slots : goal.returns-then-before-slots
returns-then-before-slots c = end_before_slot _ _ c.if-before-slots.true

pub returns-else-before-slots : goal.returns-else-before-slots
returns-else-before-slots c = end_before_none _ _ c.if-before-slots.false
