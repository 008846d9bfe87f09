-- `slots::word_agrees` meets its contract.
-- The words read are the slot's.
use Rattle.slots.proofs.word_agrees.Goals as goal

pub returns : goal.returns
returns c = rw (c.word_matches.ensures, c.mask_word.ensures, c.value_word.ensures)
