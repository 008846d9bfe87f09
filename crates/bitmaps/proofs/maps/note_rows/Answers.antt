-- `bitmaps::maps::note_rows` meets its contract. The loop's invariant: the maps with the first k rows noted.
use mathlib.Core.Path.{◌≡◌, refl}
use Prim.Native.Nat.{◌+◌, ◌≤◌}
use native.Mathlib.Omega.{arith}
use lib.ListN.{length, get_or, length-set}
use Rattle.bitmaps.specs.Rows.{noted}
use Rattle.bitmaps.specs.RowsLaws.{noted_more}
use Rattle.bitmaps.proofs.maps.note_rows.Goals as goal

pub loop-row-init : goal.loop-row-init
unfolding noted
loop-row-init c = (omega arith, refl, refl)

pub overflow_add-at : goal.overflow_add-at
overflow_add-at c = omega (arith, (let it : get_or c.args.own.now c.loop-row.row-index 0 + 16 ≤ length c.loop-row.maps = let p = c.requires.by_index c.loop-row.row-index c.loop-row-test.true in let l = c.loop-row.invariant.1 in omega arith in it))

pub offset_bounds-maps-at : goal.offset_bounds-maps-at
offset_bounds-maps-at c = omega (arith, (let it : get_or c.args.own.now c.loop-row.row-index 0 + 16 ≤ length c.loop-row.maps = let p = c.requires.by_index c.loop-row.row-index c.loop-row-test.true in let l = c.loop-row.invariant.1 in omega arith in it))

pub bounds-maps-at : goal.bounds-maps-at
bounds-maps-at c = omega (arith, (let it : get_or c.args.own.now c.loop-row.row-index 0 + 16 ≤ length c.loop-row.maps = let p = c.requires.by_index c.loop-row.row-index c.loop-row-test.true in let l = c.loop-row.invariant.1 in omega arith in it))

pub offset_bounds-maps-at-in-loop-row : goal.offset_bounds-maps-at-in-loop-row
offset_bounds-maps-at-in-loop-row c = omega (arith, (let it : get_or c.args.own.now c.loop-row.row-index 0 + 16 ≤ length c.loop-row.maps = let p = c.requires.by_index c.loop-row.row-index c.loop-row-test.true in let l = c.loop-row.invariant.1 in omega arith in it))

pub bounds-maps-at-in-loop-row : goal.bounds-maps-at-in-loop-row
bounds-maps-at-in-loop-row c = omega (arith, (let it : get_or c.args.own.now c.loop-row.row-index 0 + 16 ≤ length c.loop-row.maps = let p = c.requires.by_index c.loop-row.row-index c.loop-row-test.true in let l = c.loop-row.invariant.1 in omega arith in it))

pub loop-row-preserved : goal.loop-row-preserved
loop-row-preserved c =
    let l = c.loop-row in
    (omega arith, simp length-set l.invariant.1, rw c.set_bit.ensures (noted_more _ _ _ _ l.row-index l.maps l.invariant.2))

pub returns : goal.returns
returns c = let l = c.loop-row.invariant.0 in let k : length c.args.own.now ≡ c.loop-row.row-index = omega arith in rw k c.loop-row.invariant.2
