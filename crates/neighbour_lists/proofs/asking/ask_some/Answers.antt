-- `neighbour_lists::asking::ask_some` meets its contract.
use native.Mathlib.Omega.{arith}
use lib.ListN.{length}
use Rattle.neighbour_lists.specs.Lists.{precedes_slot, misordered_slots, rank_at, occupied_at}
use Rattle.neighbour_lists.proofs.PairLaws.{pairing_at}
use Rattle.neighbour_lists.proofs.MarksLaws.{begin_row, needed_inside, screen_row, inside_screened}
use Rattle.neighbour_lists.proofs.asking.ask_some.Goals as goal

pub returns-then-some-eq0 : goal.returns-then-some-eq0
returns-then-some-eq0 c =
    let a = c.args in
    let n = c.needed-some in record {
      in_row_2 = rw c.if-some-eq0.true at
          (begin_row (precedes_slot a.mode.width a.mode.uncounted a.table.now) (misordered_slots a.mode.width a.mode.uncounted a.table.now) (rank_at a.mode.width a.table.now) (occupied_at a.mode.width a.table.now) a.near.now a.full.now a.free.now a.low.now a.later a.block (pairing_at a.mode.width a.mode.uncounted a.table.now) c.requires.marks a.before n.result a.rank n.ensures c.requires.table_value.1 c.requires.in_row);
      marks_2 = c.requires.marks;
    }

pub ask_block-requires : goal.ask_block-requires
ask_block-requires c =
    let a = c.args in
    let n = c.needed-some in
    let s = c.apart_in-apart in record {
      width = (c.requires.width.0, c.requires.width.1, c.requires.width.2, c.requires.width.3, c.requires.width.4, c.requires.width.5, c.requires.width.6, c.requires.width.7);
      table_value = (
        c.requires.table_value.0,
        c.requires.table_value.1,
        rw c.lacking.ensures
            (inside_screened (precedes_slot a.mode.width a.mode.uncounted a.table.now) (misordered_slots a.mode.width a.mode.uncounted a.table.now) a.near.now a.maps.now a.rows.now (length a.rows.now) a.later a.block n.result s.result a.before (omega arith) c.requires.tells s.ensures (omega (arith, s.type_inv))
            (needed_inside (precedes_slot a.mode.width a.mode.uncounted a.table.now) (misordered_slots a.mode.width a.mode.uncounted a.table.now) (rank_at a.mode.width a.table.now) (occupied_at a.mode.width a.table.now) a.near.now a.full.now a.free.now a.low.now a.later a.block (pairing_at a.mode.width a.mode.uncounted a.table.now) c.requires.marks n.result a.rank n.ensures)),
      );
      in_row = rw c.lacking.ensures
          (screen_row (precedes_slot a.mode.width a.mode.uncounted a.table.now) (misordered_slots a.mode.width a.mode.uncounted a.table.now) a.near.now a.maps.now a.rows.now (length a.rows.now) a.later a.block n.result s.result a.before (omega arith) c.requires.tells s.ensures (omega (arith, s.type_inv))
          (begin_row (precedes_slot a.mode.width a.mode.uncounted a.table.now) (misordered_slots a.mode.width a.mode.uncounted a.table.now) (rank_at a.mode.width a.table.now) (occupied_at a.mode.width a.table.now) a.near.now a.full.now a.free.now a.low.now a.later a.block (pairing_at a.mode.width a.mode.uncounted a.table.now) c.requires.marks a.before n.result a.rank n.ensures c.requires.table_value.1 c.requires.in_row));
      marks = c.requires.marks;
    }
