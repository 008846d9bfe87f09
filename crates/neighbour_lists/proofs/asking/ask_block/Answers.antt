-- `neighbour_lists::asking::ask_block` meets its contract. The loop's invariant: the row and the marks, the slots of the bits left not yet asked.
use mathlib.Core.Path.{◌≡◌, refl, ◌∙◌}
use mathlib.Core.Bool.{◌||◌}
use native.Mathlib.Omega.{arith}
use lib.ListN.{length}
use lib.Bits.{bit_and, and_le_l}
use Rattle.bitmaps.specs.FlagsLaws.{turned_less}
use Rattle.neighbour_lists.specs.Lists.{precedes_slot, misordered_slots, rank_at, occupied_at}
use Rattle.neighbour_lists.specs.Row.{InRow, Marks, Inside}
use Rattle.neighbour_lists.proofs.PairLaws.{pairing_at}
use Rattle.neighbour_lists.proofs.MarksLaws.{turn_block}
use Rattle.neighbour_lists.proofs.RowLaws.{skip_row, inside_skipped}
use Rattle.neighbour_lists.proofs.asking.ask_block.Goals as goal

pub loop-left-init : goal.loop-left-init
loop-left-init c =
    (refl, refl, c.requires.in_row, c.requires.marks, c.requires.table_value.2)

pub overflow_add-block : goal.overflow_add-block
overflow_add-block c = omega (arith, c.top-t.ensures.below)

pub ask_pair-bad-requires : goal.ask_pair-bad-requires
ask_pair-bad-requires c =
    let l = c.loop-left.invariant in
    let h = l.4 c.top-t.result c.top-t.ensures.hit in
    let e = l.0 in
    let f = l.1 in
    record { width = (c.requires.width.0, h, omega arith, omega arith, omega arith, omega arith); table_value = (c.requires.table_value.0, c.requires.table_value.1) }

pub drop_bit-requires : goal.drop_bit-requires
drop_bit-requires c = let t = c.top-t in (t.ensures.below, t.ensures.hit)

pub needed-requires : goal.needed-requires
needed-requires c =
    let l = c.loop-left.invariant in
    (omega (arith, c.ask_pair-bad.auto.near, l.0), omega arith, omega (arith, c.ask_pair-bad.auto.free, l.1), omega arith)

pub skip_quiet-left-requires : goal.skip_quiet-left-requires
skip_quiet-left-requires c =
    let s = (let it : let l = c.loop-left in let a = c.args in let rest = bit_and c.drop_bit.result c.needed.result in (length c.ask_pair-bad.new.near ≡ length l.near) × (length c.ask_pair-bad.new.free ≡ length l.free) × InRow (precedes_slot a.mode.width a.mode.uncounted a.table.now) (misordered_slots a.mode.width a.mode.uncounted a.table.now) c.ask_pair-bad.new.near a.later a.block rest (c.ask_pair-bad.result || l.bad) × Marks (rank_at a.mode.width a.table.now) (occupied_at a.mode.width a.table.now) c.ask_pair-bad.new.near a.full.now c.ask_pair-bad.new.free a.low.now a.later × Inside a.later a.block rest = let l = c.loop-left in let a = c.args in let t = c.top-t in let e = l.invariant.0 in let f = l.invariant.1 in turn_block (precedes_slot a.mode.width a.mode.uncounted a.table.now) (misordered_slots a.mode.width a.mode.uncounted a.table.now) (rank_at a.mode.width a.table.now) (occupied_at a.mode.width a.table.now) l.near a.full.now l.free a.low.now a.later a.block l.left t.result l.bad (pairing_at a.mode.width a.mode.uncounted a.table.now) l.invariant.2 l.invariant.3 l.invariant.4 (omega arith) (omega arith) (omega arith) (omega arith) t.ensures c.ask_pair-bad.new.near c.ask_pair-bad.new.free c.ask_pair-bad.result c.drop_bit.result c.needed.result a.rank c.ask_pair-bad.ensures.value c.ask_pair-bad.ensures.near_after c.ask_pair-bad.ensures.free_after c.drop_bit.ensures c.needed.ensures c.requires.table_value.1 in it) in
    let e = c.loop-left.invariant.0 in
    record { width = (c.requires.width.0, c.requires.width.1, c.requires.width.2, omega (arith, s.0, e, c.requires.width.3), c.requires.width.7); rank_value = (c.requires.table_value.1, s.4) }

pub loop-left-smaller : goal.loop-left-smaller
loop-left-smaller c =
    let t = c.top-t in
    let e = c.drop_bit.ensures in
    omega (arith, c.skip_quiet-left.ensures.fewer, turned_less c.loop-left.left t.result t.ensures.hit, and_le_l c.drop_bit.result c.needed.result)

pub loop-left-preserved : goal.loop-left-preserved
loop-left-preserved c =
    let l = c.loop-left in
    let a = c.args in
    let rest = bit_and c.drop_bit.result c.needed.result in
    let s = (let it : let l = c.loop-left in let a = c.args in let rest = bit_and c.drop_bit.result c.needed.result in (length c.ask_pair-bad.new.near ≡ length l.near) × (length c.ask_pair-bad.new.free ≡ length l.free) × InRow (precedes_slot a.mode.width a.mode.uncounted a.table.now) (misordered_slots a.mode.width a.mode.uncounted a.table.now) c.ask_pair-bad.new.near a.later a.block rest (c.ask_pair-bad.result || l.bad) × Marks (rank_at a.mode.width a.table.now) (occupied_at a.mode.width a.table.now) c.ask_pair-bad.new.near a.full.now c.ask_pair-bad.new.free a.low.now a.later × Inside a.later a.block rest = let l = c.loop-left in let a = c.args in let t = c.top-t in let e = l.invariant.0 in let f = l.invariant.1 in turn_block (precedes_slot a.mode.width a.mode.uncounted a.table.now) (misordered_slots a.mode.width a.mode.uncounted a.table.now) (rank_at a.mode.width a.table.now) (occupied_at a.mode.width a.table.now) l.near a.full.now l.free a.low.now a.later a.block l.left t.result l.bad (pairing_at a.mode.width a.mode.uncounted a.table.now) l.invariant.2 l.invariant.3 l.invariant.4 (omega arith) (omega arith) (omega arith) (omega arith) t.ensures c.ask_pair-bad.new.near c.ask_pair-bad.new.free c.ask_pair-bad.result c.drop_bit.result c.needed.result a.rank c.ask_pair-bad.ensures.value c.ask_pair-bad.ensures.near_after c.ask_pair-bad.ensures.free_after c.drop_bit.ensures c.needed.ensures c.requires.table_value.1 in it) in (
      s.0 ∙ l.invariant.0,
      s.1 ∙ l.invariant.1,
      skip_row (precedes_slot a.mode.width a.mode.uncounted a.table.now) (misordered_slots a.mode.width a.mode.uncounted a.table.now) c.ask_pair-bad.new.near a.later a.block rest c.skip_quiet-left.result (c.ask_pair-bad.result || l.bad) s.2 c.skip_quiet-left.ensures,
      s.3,
      inside_skipped (precedes_slot a.mode.width a.mode.uncounted a.table.now) (misordered_slots a.mode.width a.mode.uncounted a.table.now) c.ask_pair-bad.new.near a.later a.block rest c.skip_quiet-left.result c.skip_quiet-left.ensures s.4,
    )

pub returns : goal.returns
returns c = record { in_row_2 = rw c.loop-left-test.false at c.loop-left.invariant.2; marks_2 = c.loop-left.invariant.3 }
