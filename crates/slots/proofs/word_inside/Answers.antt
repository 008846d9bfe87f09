-- `slots::word_inside` meets its contract.
-- The words read are the slot's.
use Rattle.slots.proofs.word_inside.Goals as goal

pub returns : goal.returns
returns c = rw (c.word_within.ensures, c.mask_word.ensures, c.value_word.ensures)
