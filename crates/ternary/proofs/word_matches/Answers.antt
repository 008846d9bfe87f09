-- `ternary::word_matches` is the test of one word that specs/Word.antt defines, to the letter.
-- Assumes nothing.
use mathlib.Core.Path.{refl}
use Rattle.ternary.specs.Word.{agree}
use Rattle.ternary.proofs.word_matches.Goals as goal

pub returns : goal.returns
unfolding agree
returns c = refl
