-- `pairs::mask_within` meets its contract.
-- The words read are the two slots'.
use mathlib.Core.Path.{◌∙◌}
use Rattle.pairs.proofs.mask_within.Goals as goal

pub returns : goal.returns
returns c = c.word_within.ensures ∙ rw (c.mask_word.ensures, c.mask_word-2.ensures)
