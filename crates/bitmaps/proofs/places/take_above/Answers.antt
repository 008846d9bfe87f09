-- `bitmaps::places::take_above` meets its contract.
-- A score of at most 256 leaves half of what was left, and a place that is taken is below the number of places.
use mathlib.Core.Path.{refl, ap, ◌∙◌}
use mathlib.Core.Bool.{◌&&◌}
use Prim.Native.Nat.{◌*◌}
use native.Mathlib.Omega.{arith}
use lib.Dec.{ltb}
use lib.ListN.{length, get_or, length-set}
use Rattle.bitmaps.specs.PlacesLaws.{below_more, below_set, share, less_last}
use Rattle.bitmaps.proofs.places.take_above.Goals as goal
use Rattle.bitmaps.proofs.places.take_above.Goals.{then-level-score, else-level-score}

pub loop-place-init : goal.loop-place-init
loop-place-init c = (omega arith, omega arith, omega arith, refl, refl, c.requires.below.0, c.requires.below.1)

pub bounds-places-count : goal.bounds-places-count
bounds-places-count c = let turn = c.loop-place in omega (arith, less_last (ltb c.args.level (get_or turn.scores turn.place 0) && ltb 10737418 turn.left) turn.count 64 c.if-level-score.true)

pub overflow_mul-left : goal.overflow_mul-left
overflow_mul-left c = omega (arith, c.loop-place.invariant.5 c.loop-place.place (omega arith))

pub overflow_mul-left-then-level-score : goal.overflow_mul-left-then-level-score
overflow_mul-left-then-level-score c =
    let turn = c.loop-place in
    omega (arith, share turn.left (get_or turn.scores turn.place 0) (turn.invariant.5 turn.place (omega arith)))

pub overflow_sub-left : goal.overflow_sub-left
overflow_sub-left c =
    let turn = c.loop-place in
    omega (arith, share turn.left (get_or turn.scores turn.place 0) (turn.invariant.5 turn.place (omega arith)))

pub loop-place-preserved : goal.loop-place-preserved
loop-place-preserved c =
    let turn = c.loop-place in
    let a = c.args in
    let score = get_or turn.scores turn.place 0 in
    elim c.if-level-score.branch [
      | then-level-score w ↦
          let free = less_last (ltb a.level score && ltb 10737418 turn.left) turn.count 64 w.if-level-score.true in (
            omega arith,
            omega (arith, w.count-is),
            omega (arith, w.left-is),
            ap length w.scores-is ∙ (length-set turn.scores turn.place 0 ∙ turn.invariant.3),
            ap length w.places-is ∙ (length-set turn.places turn.count turn.place ∙ turn.invariant.4),
            rw w.scores-is (below_set turn.scores (64 * a.width) 257 turn.place 0 (omega arith) (omega arith) turn.invariant.5),
            rw (w.places-is, w.count-is) (below_more turn.places turn.count (64 * a.width) turn.place (omega arith) (omega arith) turn.invariant.6),
          )
      | else-level-score w ↦ (
        omega arith,
        omega (arith, w.count-is),
        omega (arith, w.left-is),
        ap length w.scores-is ∙ turn.invariant.3,
        ap length w.places-is ∙ turn.invariant.4,
        rw w.scores-is turn.invariant.5,
        rw (w.places-is, w.count-is) turn.invariant.6,
      )
    ]

pub returns : goal.returns
returns c = (omega arith, omega arith, c.loop-place.invariant.5, c.loop-place.invariant.6)
