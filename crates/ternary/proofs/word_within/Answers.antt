-- `ternary::word_within` is the test of one word that specs/Word.antt defines, to the letter.
-- Assumes nothing.
use mathlib.Core.Path.{refl}
use Rattle.ternary.specs.Word.{inside}
use Rattle.ternary.proofs.word_within.Goals as goal

pub returns : goal.returns
unfolding inside
returns c = refl
