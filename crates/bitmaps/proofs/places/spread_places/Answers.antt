-- `bitmaps::places::spread_places` meets its contract. The loop's invariant: the first k places are spread.
use mathlib.Core.Path.{◌≡◌, refl}
use Prim.Native.Nat.{◌*◌, ◌/◌, ◌%◌, ◌<◌}
use native.Mathlib.Omega.{arith}
use lib.ListN.{length, get_or, length-set}
use Rattle.bitmaps.specs.RowsLaws.{spread_more, spread_none, total_with, total_none}
use Rattle.bitmaps.proofs.places.spread_places.Goals as goal

pub loop-k-init : goal.loop-k-init
loop-k-init c =
    let a = c.args in
    (omega arith, refl, refl, omega (arith, total_none a.chosen.now c.requires.below.1 a.width), spread_none a.places.now 0 a.chosen.now a.starts.now c.requires.below.1)

pub offset_bounds-chosen-word : goal.offset_bounds-chosen-word
offset_bounds-chosen-word c = omega (arith, (let it : get_or c.args.places.now c.loop-k.k 0 < 64 * c.args.width = c.requires.below.0 c.loop-k.k c.loop-k-test.true in it))

pub bounds-chosen-word : goal.bounds-chosen-word
bounds-chosen-word c = omega (arith, (let it : get_or c.args.places.now c.loop-k.k 0 < 64 * c.args.width = c.requires.below.0 c.loop-k.k c.loop-k-test.true in it))

pub offset_bounds-chosen-word-in-loop-k : goal.offset_bounds-chosen-word-in-loop-k
offset_bounds-chosen-word-in-loop-k c = omega (arith, (let it : get_or c.args.places.now c.loop-k.k 0 < 64 * c.args.width = c.requires.below.0 c.loop-k.k c.loop-k-test.true in it))

pub bounds-chosen-word-in-loop-k : goal.bounds-chosen-word-in-loop-k
bounds-chosen-word-in-loop-k c = omega (arith, (let it : get_or c.args.places.now c.loop-k.k 0 < 64 * c.args.width = c.requires.below.0 c.loop-k.k c.loop-k-test.true in it))

pub offset_bounds-starts-place : goal.offset_bounds-starts-place
offset_bounds-starts-place c = omega (arith, (let it : get_or c.args.places.now c.loop-k.k 0 < 64 * c.args.width = c.requires.below.0 c.loop-k.k c.loop-k-test.true in it))

pub bounds-starts-place : goal.bounds-starts-place
bounds-starts-place c = omega (arith, (let it : get_or c.args.places.now c.loop-k.k 0 < 64 * c.args.width = c.requires.below.0 c.loop-k.k c.loop-k-test.true in it))

pub loop-k-preserved : goal.loop-k-preserved
loop-k-preserved c =
    let l = c.loop-k in
    let a = c.args in
    let h = (let it : get_or c.args.places.now c.loop-k.k 0 < 64 * c.args.width = c.requires.below.0 c.loop-k.k c.loop-k-test.true in it) in
    let chosen = l.invariant.1 in
    let starts = l.invariant.2 in (
      omega arith,
      simp length-set chosen,
      simp length-set starts,
      rw c.set_bit.ensures (omega (arith, total_with l.chosen (get_or a.places.now l.k 0 / 64) (get_or a.places.now l.k 0 % 64) a.width (omega arith), l.invariant.3)),
      rw c.set_bit.ensures (spread_more a.places.now l.chosen l.starts l.k (get_or a.places.now l.k 0) (omega arith) (omega arith) refl l.invariant.4),
    )

pub returns : goal.returns
returns c =
    let k : length c.args.places.now ≡ c.loop-k.k = (let l = c.loop-k.invariant.0 in omega arith) in
    (rw k c.loop-k.invariant.3, rw k c.loop-k.invariant.4)
