-- `neighbour_lists::asking::ask_row` meets its contract. The loop's invariant: the row and the marks, the blocks from `block` on done.
use mathlib.Core.Path.{◌≡◌, refl}
use Prim.Native.Nat.{◌-◌, ◌+◌}
use native.Mathlib.Omega.{arith}
use Rattle.neighbour_lists.proofs.asking.ask_row.Goals as goal

pub slot_rank-rank-requires : goal.slot_rank-rank-requires
slot_rank-rank-requires c = let p = c.requires.width in (p.0, p.1)

pub loop-block-init : goal.loop-block-init
loop-block-init c =
    (refl, refl, omega arith, c.requires.in_row, c.requires.marks)

pub ask_some-bad-requires : goal.ask_some-bad-requires
ask_some-bad-requires c =
    let l = c.loop-block in
    let q = l.invariant.0 in
    let f = l.invariant.1 in
    let e : l.block - 1 + 1 ≡ l.block = (let t = c.loop-block-test.true in omega arith) in record { width = (c.requires.width.0, c.requires.width.1, c.requires.width.2, omega arith, c.requires.width.4, omega arith, c.requires.width.6, omega arith); table_value = (c.requires.table_value, c.slot_rank-rank.ensures); in_row = rw e l.invariant.3; marks = l.invariant.4; by_index = c.requires.by_index; tells = c.requires.tells }

pub loop-block-preserved : goal.loop-block-preserved
loop-block-preserved c =
    let l = c.loop-block in
    (omega (arith, c.ask_some-bad.auto.near, l.invariant.0), omega (arith, c.ask_some-bad.auto.free, l.invariant.1), omega arith, c.ask_some-bad.ensures.in_row_2, c.ask_some-bad.ensures.marks_2)

pub returns : goal.returns
returns c = let e : c.loop-block.block ≡ 0 = omega arith in record { in_row_2 = rw e at c.loop-block.invariant.3; marks_2 = c.loop-block.invariant.4 }
