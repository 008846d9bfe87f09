-- `neighbour_lists::passing::take_rule` meets its contract: the row is asked from its start to its end, then the slot is noted.
use mathlib.Core.Path.{ap, ◌∙◌}
use Prim.Native.Nat.{ℕ, ◌+◌, ◌*◌, ◌<◌}
use native.Mathlib.Omega.{arith}
use lib.ListN.{length, take, length-set}
use Rattle.std.proofs.lemmas.List.{length-take-le}
use Rattle.neighbour_lists.specs.Pass.{lowered}
use Rattle.neighbour_lists.proofs.PassLaws.{tells_screen, rows_front, row_fits, row_told, row_begun, marks_begun, taken_rule}
use Rattle.neighbour_lists.proofs.passing.take_rule.Goals as goal

pub ask_row-bad-requires : goal.ask_row-bad-requires
ask_row-bad-requires c =
    let a = c.args in
    let room = c.requires.room in
    let taken = c.requires.taken in
    let near : 2 * a.slot + 1 < length a.near.now = omega (arith, room.numbers, c.requires.width.2) in
    let used = c.fill_rows-used.result in
    let front = length-take-le used c.fill_rows-used.new.others (omega (arith, c.fill_rows-used.ensures.0, c.fill_rows-used.auto.others, room.row_others)) in
    let rows = rows_front a.mode.width a.table.now a.places.now c.fill_rows-used.new.others c.fill_rows-used.new.own (length a.places.now) a.slot used c.fill_rows-used.ensures.1 in
    record { width = (c.requires.width.0, c.requires.width.2, omega (arith, c.requires.width.1, c.requires.width.2), simp length-set near, room.blocks, room.blocks_free, room.blocks_low); table_value = c.requires.width.3; in_row = row_begun a.mode.width a.mode.uncounted a.table.now a.places.now a.near.now a.full.now a.free.now a.low.now a.maps.now a.slot near taken; marks = marks_begun a.mode.width a.mode.uncounted a.table.now a.places.now a.near.now a.full.now a.free.now a.low.now a.maps.now a.slot near taken; by_index = λ m h. row_fits _ (length a.places.now) _ (rows m (omega (arith, h, front))).other.start (rows m (omega (arith, h, front))).other.known room.rows; tells = tells_screen a.mode.width a.mode.uncounted a.table.now a.places.now a.maps.now (take used c.fill_rows-used.new.others) (length a.places.now) a.slot (length (take used c.fill_rows-used.new.others)) taken.screen room.inside (λ m h. (rows m (omega (arith, h, front))).other) }

pub overflow_mul-near-2 : goal.overflow_mul-near-2
overflow_mul-near-2 c = omega (arith, c.requires.width.1, c.requires.width.2)

pub offset_bounds-near-slot-2 : goal.offset_bounds-near-slot-2
offset_bounds-near-slot-2 c = omega (arith, c.requires.width.1, c.requires.width.2)

pub bounds-near-slot-2 : goal.bounds-near-slot-2
bounds-near-slot-2 c =
    let a = c.args in
    let room = c.requires.room in
    let kept = c.ask_row-bad.auto.near ∙ length-set a.near.now (2 * a.slot + 1) 65535 in
    omega (arith, room.numbers, c.requires.width.2, kept)

pub note_rows-requires : goal.note_rows-requires
note_rows-requires c =
    let a = c.args in
    let room = c.requires.room in
    let used = c.fill_rows-used.result in
    let front = length-take-le used c.fill_rows-used.new.own (omega (arith, c.fill_rows-used.ensures.0, c.fill_rows-used.auto.own, room.row_own)) in
    let rows = rows_front a.mode.width a.table.now a.places.now c.fill_rows-used.new.others c.fill_rows-used.new.own (length a.places.now) a.slot used c.fill_rows-used.ensures.1 in
    record { slot_bound = omega (arith, c.requires.width.1, c.requires.width.2); by_index = λ m h. row_fits _ (length a.places.now) _ (rows m (omega (arith, h, front))).own.start (rows m (omega (arith, h, front))).own.known room.rows }

pub slot_rank-requires : goal.slot_rank-requires
slot_rank-requires c = let p = c.requires.width in (p.0, p.2)

pub note_rule-requires : goal.note_rule-requires
note_rule-requires c =
    let room = c.requires.room in
    (omega (arith, c.requires.width.1, c.requires.width.2), room.blocks, omega (arith, c.ask_row-bad.auto.free, room.blocks_free), room.blocks_low)

pub returns : goal.returns
returns c =
    let a = c.args in
    let room = c.requires.room in
    let taken = c.requires.taken in
    let word = c.slot_rank in
    let used = c.fill_rows-used.result in
    let front = length-take-le used c.fill_rows-used.new.own (omega (arith, c.fill_rows-used.ensures.0, c.fill_rows-used.auto.own, room.row_own)) in
    let rows = rows_front a.mode.width a.table.now a.places.now c.fill_rows-used.new.others c.fill_rows-used.new.own (length a.places.now) a.slot used c.fill_rows-used.ensures.1 in
    let small : a.slot < 1024 = omega (arith, c.requires.width.1, c.requires.width.2) in
    let kept = c.ask_row-bad.auto.near ∙ length-set a.near.now (2 * a.slot + 1) 65535 in
    let near : 2 * a.slot < length c.ask_row-bad.new.near = omega (arith, room.numbers, c.requires.width.2, kept) in record {
      value = row_told a.mode.width a.mode.uncounted a.table.now c.ask_row-bad.new.near a.slot c.ask_row-bad.result c.ask_row-bad.ensures.in_row_2;
      taken_2 = taken_rule a.mode.width a.mode.uncounted a.table.now a.places.now c.ask_row-bad.new.near a.full.now c.ask_row-bad.new.free a.low.now a.maps.now (take used c.fill_rows-used.new.others) (take used c.fill_rows-used.new.own)
          (length a.places.now) a.slot used c.ask_row-bad.result near (omega (arith, room.blocks)) (omega (arith, c.ask_row-bad.auto.free, room.blocks_free)) (omega (arith, room.blocks_low)) room.rows small
          c.ask_row-bad.ensures.in_row_2 c.ask_row-bad.ensures.marks_2 taken.screen rows
          c.note_rule.new.full c.note_rule.new.free c.note_rule.new.low c.note_rows.new.maps c.note_rule.ensures.full_after c.note_rule.ensures.free_after
          (c.note_rule.ensures.low_after ∙ ap (λ (x : ℕ). lowered a.low.now a.slot x) word.ensures) (rw front at c.note_rows.ensures);
    }
