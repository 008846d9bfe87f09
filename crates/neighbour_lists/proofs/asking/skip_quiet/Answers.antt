-- `neighbour_lists::asking::skip_quiet` meets its contract. The loop's invariant: the slots dropped so far are quiet.
use native.Mathlib.Omega.{arith}
use borrow.Author.Tests.{not-false}
use Rattle.bitmaps.specs.FlagsLaws.{turned_less}
use Rattle.neighbour_lists.specs.Lists.{precedes_slot, misordered_slots}
use Rattle.neighbour_lists.proofs.RowLaws.{skip_none, skip_top, inside_skipped}
use Rattle.neighbour_lists.proofs.asking.skip_quiet.Goals as goal

pub loop-left-init : goal.loop-left-init
loop-left-init c = let a = c.args in skip_none (precedes_slot a.mode.width a.mode.uncounted a.table.now) (misordered_slots a.mode.width a.mode.uncounted a.table.now) a.near.now a.later a.block a.some

pub overflow_add-block : goal.overflow_add-block
overflow_add-block c = omega (arith, c.top-t.ensures.below)

pub quiet-requires : goal.quiet-requires
quiet-requires c =
    let a = c.args in
    let h = inside_skipped (precedes_slot a.mode.width a.mode.uncounted a.table.now) (misordered_slots a.mode.width a.mode.uncounted a.table.now) a.near.now a.later a.block a.some c.loop-left.left c.loop-left.invariant c.requires.rank_value.1 c.top-t.result c.top-t.ensures.hit in
    record { width = (c.requires.width.0, h, c.requires.width.1, c.requires.width.3); rank_value = c.requires.rank_value.0 }

pub returns-then-not-quiet : goal.returns-then-not-quiet
returns-then-not-quiet c = c.loop-left.invariant

pub drop_bit-left-requires : goal.drop_bit-left-requires
drop_bit-left-requires c = (c.top-t.ensures.below, c.top-t.ensures.hit)

pub loop-left-smaller : goal.loop-left-smaller
loop-left-smaller c =
    let t = c.top-t in
    omega (arith, c.drop_bit-left.ensures, turned_less c.loop-left.left t.result t.ensures.hit)

pub loop-left-preserved : goal.loop-left-preserved
loop-left-preserved c =
    let a = c.args in
    let l = c.loop-left in
    let t = c.top-t in
    rw c.drop_bit-left.ensures
    (skip_top (precedes_slot a.mode.width a.mode.uncounted a.table.now) (misordered_slots a.mode.width a.mode.uncounted a.table.now) a.near.now a.later a.block a.some l.left t.result l.invariant t.ensures (c.quiet.ensures (not-false _ c.if-not-quiet.false-raw)))

pub returns : goal.returns
returns c = rw c.loop-left-test.false at c.loop-left.invariant
