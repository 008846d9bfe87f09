-- `bitmaps::places::fill_scores` meets its contract.
-- The scores of the words passed are at most 256.
use mathlib.Core.Path.{refl}
use native.Mathlib.Omega.{arith}
use Rattle.bitmaps.proofs.places.fill_scores.Goals as goal

pub loop-word-init : goal.loop-word-init
loop-word-init c = (omega arith, refl, λ k h. absurd (omega arith))

pub score_word-requires : goal.score_word-requires
score_word-requires c = let p = c.requires in let inv = c.loop-word.invariant in (p.0, p.1, omega arith, omega arith, inv.2)

pub loop-word-preserved : goal.loop-word-preserved
loop-word-preserved c =
    let inv = c.loop-word.invariant in
    (omega arith, omega arith, λ k h. c.score_word.ensures k (omega arith))

pub returns : goal.returns
returns c = λ k h. c.loop-word.invariant.2 k (omega arith)
