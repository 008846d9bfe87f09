-- `bitmaps::places::score_word` meets its contract.
-- The scores of the places passed are at most 256.
use mathlib.Core.Path.{refl, ◌∙◌}
use Prim.Native.Nat.{◌+◌, ◌*◌}
use native.Mathlib.Omega.{arith}
use lib.ListN.{length-set}
use Rattle.bitmaps.specs.PlacesLaws.{below_more, product}
use Rattle.bitmaps.proofs.places.score_word.Goals as goal

pub count_word-requires : goal.count_word-requires
count_word-requires c = let p = c.requires in (p.0, p.1, p.2, omega arith, omega arith)

pub loop-s-init : goal.loop-s-init
loop-s-init c = (omega arith, refl, λ k h. c.requires.4 k (omega arith))

pub count_at-requires : goal.count_at-requires
count_at-requires c = (omega (arith), omega arith)

pub count_at-requires-in-loop-s : goal.count_at-requires-in-loop-s
count_at-requires-in-loop-s c = (omega (arith), omega arith)

pub overflow_mul-count_at : goal.overflow_mul-count_at
overflow_mul-count_at c = omega (arith, product c.count_at.result c.count_at-in-loop-s.result c.count_at.ensures c.count_at-in-loop-s.ensures)

pub overflow_cast-scores : goal.overflow_cast-scores
overflow_cast-scores c = omega (arith, c.min.ensures)

pub loop-s-preserved : goal.loop-s-preserved
loop-s-preserved c =
    let turn = c.loop-s in
    let at = 64 * c.args.word + turn.s in
    let score = c.min.result in (
      omega arith,
      length-set turn.scores at score ∙ turn.invariant.1,
      λ k h. below_more turn.scores at 257 score (omega arith) (omega (arith, c.min.ensures)) turn.invariant.2 k (omega arith),
    )

pub returns : goal.returns
returns c = λ k h. c.loop-s.invariant.2 k (omega arith)
