-- `bitmaps::maps::apart_in` meets its contract. The loop's invariant: the join of the first 2 k rows. A turn joins two more.
use mathlib.Core.Path.{◌≡◌, refl}
use Prim.Native.Nat.{◌+◌, ◌-◌, ◌*◌}
use native.Mathlib.Omega.{arith}
use lib.ListN.{length}
use Rattle.bitmaps.specs.Rows.{gathered}
use Rattle.bitmaps.specs.RowsLaws.{gathered_more}
use Rattle.bitmaps.proofs.maps.apart_in.Goals as goal

pub returns-then-used-eq0 : goal.returns-then-used-eq0
unfolding gathered
returns-then-used-eq0 c = rw c.if-used-eq0.true

pub offset_bounds-maps-block : goal.offset_bounds-maps-block
offset_bounds-maps-block c = omega (arith, c.requires.by_index 0 (omega arith))

pub slice_bounds-words-count : goal.slice_bounds-words-count
slice_bounds-words-count c = omega (arith, c.requires.by_index 0 (omega arith))

pub slice_bounds-words-start : goal.slice_bounds-words-start
slice_bounds-words-start c = omega (arith, c.requires.by_index 0 (omega arith))

pub slice_bounds-words-end : goal.slice_bounds-words-end
slice_bounds-words-end c = omega (arith, c.requires.by_index 0 (omega arith))

pub loop-k-init : goal.loop-k-init
unfolding gathered
loop-k-init c = (omega arith, refl)

pub offset_bounds-words-rows : goal.offset_bounds-words-rows
offset_bounds-words-rows c = omega (arith, c.requires.by_index (2 * c.loop-k.k) (omega arith))

pub bounds-words-rows : goal.bounds-words-rows
bounds-words-rows c = omega (arith, c.requires.by_index (2 * c.loop-k.k) (omega arith))

pub offset_bounds-words-rows-in-loop-k : goal.offset_bounds-words-rows-in-loop-k
offset_bounds-words-rows-in-loop-k c = omega (arith, c.requires.by_index (2 * c.loop-k.k + 1) (omega arith))

pub bounds-words-rows-in-loop-k : goal.bounds-words-rows-in-loop-k
bounds-words-rows-in-loop-k c = omega (arith, c.requires.by_index (2 * c.loop-k.k + 1) (omega arith))

pub loop-k-preserved : goal.loop-k-preserved
loop-k-preserved c =
    let l = c.loop-k in
    let a = c.args in
    let e : 2 * l.k + 1 + 1 ≡ 2 * (l.k + 1) = omega arith in
    (omega arith, rw e at (gathered_more a.maps.now a.rows.now a.block (2 * l.k + 1) _ (gathered_more a.maps.now a.rows.now a.block (2 * l.k) _ l.invariant.1)))

pub offset_bounds-words-rows-then-used-eq1 : goal.offset_bounds-words-rows-then-used-eq1
offset_bounds-words-rows-then-used-eq1 c = omega (arith, c.requires.by_index (length c.args.rows.now - 1) (omega arith))

pub bounds-words-rows-then-used-eq1 : goal.bounds-words-rows-then-used-eq1
bounds-words-rows-then-used-eq1 c = omega (arith, c.requires.by_index (length c.args.rows.now - 1) (omega arith))

pub returns-then-used-eq1 : goal.returns-then-used-eq1
returns-then-used-eq1 c =
    let l = c.loop-k in
    let a = c.args in
    let k : 2 * l.k ≡ length a.rows.now - 1 = omega arith in
    let e : length a.rows.now - 1 + 1 ≡ length a.rows.now = omega arith in
    rw e at (gathered_more a.maps.now a.rows.now a.block (length a.rows.now - 1) _ (rw k at l.invariant.1))

pub returns-else-used-eq1 : goal.returns-else-used-eq1
returns-else-used-eq1 c =
    let k : 2 * c.loop-k.k ≡ length c.args.rows.now = omega arith in
    rw k at c.loop-k.invariant.1
