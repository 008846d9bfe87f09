-- `bitmaps::maps::fill_word` meets its contract. The loop's invariant: the rows of the bits passed, and the walk over those left.
use mathlib.Core.Path.{◌≡◌, refl, sym, ap, ◌∙◌}
use Prim.Native.Nat.{ℕ, ◌+◌, ◌*◌, ◌<◌}
use native.Mathlib.Omega.{arith}
use lib.ListN.{get_or, length-set}
use lib.Bits.{bit_and, and_le_l}
use Rattle.ternary.specs.Bit.{bit}
use Rattle.records.specs.Record.{slot_words, mask}
use Rattle.bitmaps.specs.FlagsLaws.{turned_less}
use Rattle.bitmaps.specs.Rows.{total}
use Rattle.bitmaps.specs.RowsLaws.{filled_bit, shared_bit, total_more, walk_start, walk_room, walk_on}
use Rattle.bitmaps.proofs.maps.fill_word.Goals as goal

pub value_word-value-requires : goal.value_word-value-requires
value_word-value-requires c = let p = c.requires.width in (p.0, p.1, p.2)

pub mask_word-requires : goal.mask_word-requires
mask_word-requires c = let p = c.requires.width in (p.0, p.1, p.2)

pub loop-left-init : goal.loop-left-init
loop-left-init c =
    let a = c.args in
    let cares = mask a.width (slot_words a.width a.table.now a.slot) a.word in
    let chosen = get_or a.chosen.now a.word 0 in
    let small : bit_and cares chosen < 18446744073709551616 = omega (arith, and_le_l cares chosen, c.mask_word.ensures, c.mask_word.type_inv) in
    (refl, refl, c.requires.rows_of, rw c.mask_word.ensures (walk_start a.chosen.now cares a.word a.before small c.requires.width.8))

pub digit-v-requires : goal.digit-v-requires
digit-v-requires c = c.top-t.ensures.below

pub overflow_add-row : goal.overflow_add-row
overflow_add-row c = omega (arith, c.top-t.ensures.below)

pub offset_bounds-starts-word : goal.offset_bounds-starts-word
offset_bounds-starts-word c = omega (arith, c.top-t.ensures.below)

pub bounds-starts-word : goal.bounds-starts-word
bounds-starts-word c = omega (arith, c.top-t.ensures.below)

pub overflow_sub-others : goal.overflow_sub-others
overflow_sub-others c = omega (arith, c.digit-v.ensures.1)

pub overflow_mul-others : goal.overflow_mul-others
overflow_mul-others c = omega (arith, c.digit-v.ensures.1)

pub overflow_add-others : goal.overflow_add-others
overflow_add-others c = omega (arith, (let it : let a = c.args in let l = c.loop-left in (get_or a.starts.now (64 * a.word + c.top-t.result) 0 < 32 * a.count) × (l.used < a.count) = let a = c.args in let l = c.loop-left in let t = c.top-t.result in let asked = bit_and (mask a.width (slot_words a.width a.table.now a.slot) a.word) (get_or a.chosen.now a.word 0) in let hit = (shared_bit (mask a.width (slot_words a.width a.table.now a.slot) a.word) (get_or a.chosen.now a.word 0) t (l.invariant.3.was t c.top-t.ensures.hit)).1 in let found = c.requires.width_bound.1 a.word t c.top-t.ensures.below hit in let room = walk_room asked l.left l.used (total a.chosen.now (a.word + 1)) t l.invariant.3 c.top-t.ensures in let most = total_more a.chosen.now (a.word + 1) a.width (omega (arith, c.requires.width.2)) in (omega (arith, found.1, found.2), omega (arith, room, most, c.requires.width_bound.0)) in it).0, c.digit-v.ensures.1)

pub offset_bounds-others-used : goal.offset_bounds-others-used
offset_bounds-others-used c = omega (arith, (let it : let a = c.args in let l = c.loop-left in (get_or a.starts.now (64 * a.word + c.top-t.result) 0 < 32 * a.count) × (l.used < a.count) = let a = c.args in let l = c.loop-left in let t = c.top-t.result in let asked = bit_and (mask a.width (slot_words a.width a.table.now a.slot) a.word) (get_or a.chosen.now a.word 0) in let hit = (shared_bit (mask a.width (slot_words a.width a.table.now a.slot) a.word) (get_or a.chosen.now a.word 0) t (l.invariant.3.was t c.top-t.ensures.hit)).1 in let found = c.requires.width_bound.1 a.word t c.top-t.ensures.below hit in let room = walk_room asked l.left l.used (total a.chosen.now (a.word + 1)) t l.invariant.3 c.top-t.ensures in let most = total_more a.chosen.now (a.word + 1) a.width (omega (arith, c.requires.width.2)) in (omega (arith, found.1, found.2), omega (arith, room, most, c.requires.width_bound.0)) in it).1)

pub bounds-others-used : goal.bounds-others-used
bounds-others-used c = omega (arith, (let it : let a = c.args in let l = c.loop-left in (get_or a.starts.now (64 * a.word + c.top-t.result) 0 < 32 * a.count) × (l.used < a.count) = let a = c.args in let l = c.loop-left in let t = c.top-t.result in let asked = bit_and (mask a.width (slot_words a.width a.table.now a.slot) a.word) (get_or a.chosen.now a.word 0) in let hit = (shared_bit (mask a.width (slot_words a.width a.table.now a.slot) a.word) (get_or a.chosen.now a.word 0) t (l.invariant.3.was t c.top-t.ensures.hit)).1 in let found = c.requires.width_bound.1 a.word t c.top-t.ensures.below hit in let room = walk_room asked l.left l.used (total a.chosen.now (a.word + 1)) t l.invariant.3 c.top-t.ensures in let most = total_more a.chosen.now (a.word + 1) a.width (omega (arith, c.requires.width.2)) in (omega (arith, found.1, found.2), omega (arith, room, most, c.requires.width_bound.0)) in it).1, c.loop-left.invariant.0)

pub overflow_mul-own : goal.overflow_mul-own
overflow_mul-own c = omega (arith, c.digit-v.ensures.1)

pub overflow_add-own : goal.overflow_add-own
overflow_add-own c = omega (arith, (let it : let a = c.args in let l = c.loop-left in (get_or a.starts.now (64 * a.word + c.top-t.result) 0 < 32 * a.count) × (l.used < a.count) = let a = c.args in let l = c.loop-left in let t = c.top-t.result in let asked = bit_and (mask a.width (slot_words a.width a.table.now a.slot) a.word) (get_or a.chosen.now a.word 0) in let hit = (shared_bit (mask a.width (slot_words a.width a.table.now a.slot) a.word) (get_or a.chosen.now a.word 0) t (l.invariant.3.was t c.top-t.ensures.hit)).1 in let found = c.requires.width_bound.1 a.word t c.top-t.ensures.below hit in let room = walk_room asked l.left l.used (total a.chosen.now (a.word + 1)) t l.invariant.3 c.top-t.ensures in let most = total_more a.chosen.now (a.word + 1) a.width (omega (arith, c.requires.width.2)) in (omega (arith, found.1, found.2), omega (arith, room, most, c.requires.width_bound.0)) in it).0, c.digit-v.ensures.1)

pub offset_bounds-own-used : goal.offset_bounds-own-used
offset_bounds-own-used c = omega (arith, (let it : let a = c.args in let l = c.loop-left in (get_or a.starts.now (64 * a.word + c.top-t.result) 0 < 32 * a.count) × (l.used < a.count) = let a = c.args in let l = c.loop-left in let t = c.top-t.result in let asked = bit_and (mask a.width (slot_words a.width a.table.now a.slot) a.word) (get_or a.chosen.now a.word 0) in let hit = (shared_bit (mask a.width (slot_words a.width a.table.now a.slot) a.word) (get_or a.chosen.now a.word 0) t (l.invariant.3.was t c.top-t.ensures.hit)).1 in let found = c.requires.width_bound.1 a.word t c.top-t.ensures.below hit in let room = walk_room asked l.left l.used (total a.chosen.now (a.word + 1)) t l.invariant.3 c.top-t.ensures in let most = total_more a.chosen.now (a.word + 1) a.width (omega (arith, c.requires.width.2)) in (omega (arith, found.1, found.2), omega (arith, room, most, c.requires.width_bound.0)) in it).1)

pub bounds-own-used : goal.bounds-own-used
bounds-own-used c = omega (arith, (let it : let a = c.args in let l = c.loop-left in (get_or a.starts.now (64 * a.word + c.top-t.result) 0 < 32 * a.count) × (l.used < a.count) = let a = c.args in let l = c.loop-left in let t = c.top-t.result in let asked = bit_and (mask a.width (slot_words a.width a.table.now a.slot) a.word) (get_or a.chosen.now a.word 0) in let hit = (shared_bit (mask a.width (slot_words a.width a.table.now a.slot) a.word) (get_or a.chosen.now a.word 0) t (l.invariant.3.was t c.top-t.ensures.hit)).1 in let found = c.requires.width_bound.1 a.word t c.top-t.ensures.below hit in let room = walk_room asked l.left l.used (total a.chosen.now (a.word + 1)) t l.invariant.3 c.top-t.ensures in let most = total_more a.chosen.now (a.word + 1) a.width (omega (arith, c.requires.width.2)) in (omega (arith, found.1, found.2), omega (arith, room, most, c.requires.width_bound.0)) in it).1, c.loop-left.invariant.1)

pub overflow_add-used : goal.overflow_add-used
overflow_add-used c = omega (arith, (let it : let a = c.args in let l = c.loop-left in (get_or a.starts.now (64 * a.word + c.top-t.result) 0 < 32 * a.count) × (l.used < a.count) = let a = c.args in let l = c.loop-left in let t = c.top-t.result in let asked = bit_and (mask a.width (slot_words a.width a.table.now a.slot) a.word) (get_or a.chosen.now a.word 0) in let hit = (shared_bit (mask a.width (slot_words a.width a.table.now a.slot) a.word) (get_or a.chosen.now a.word 0) t (l.invariant.3.was t c.top-t.ensures.hit)).1 in let found = c.requires.width_bound.1 a.word t c.top-t.ensures.below hit in let room = walk_room asked l.left l.used (total a.chosen.now (a.word + 1)) t l.invariant.3 c.top-t.ensures in let most = total_more a.chosen.now (a.word + 1) a.width (omega (arith, c.requires.width.2)) in (omega (arith, found.1, found.2), omega (arith, room, most, c.requires.width_bound.0)) in it).1)

pub drop_bit-left-requires : goal.drop_bit-left-requires
drop_bit-left-requires c = (c.top-t.ensures.below, c.top-t.ensures.hit)

pub loop-left-smaller : goal.loop-left-smaller
loop-left-smaller c =
    let t = c.top-t in
    omega (arith, c.drop_bit-left.ensures, turned_less c.loop-left.left t.result t.ensures.hit)

pub loop-left-preserved : goal.loop-left-preserved
loop-left-preserved c =
    let a = c.args in
    let l = c.loop-left in
    let t = c.top-t in
    let asked = bit_and (mask a.width (slot_words a.width a.table.now a.slot) a.word) (get_or a.chosen.now a.word 0) in
    let room = (let it : let a = c.args in let l = c.loop-left in (get_or a.starts.now (64 * a.word + c.top-t.result) 0 < 32 * a.count) × (l.used < a.count) = let a = c.args in let l = c.loop-left in let t = c.top-t.result in let asked = bit_and (mask a.width (slot_words a.width a.table.now a.slot) a.word) (get_or a.chosen.now a.word 0) in let hit = (shared_bit (mask a.width (slot_words a.width a.table.now a.slot) a.word) (get_or a.chosen.now a.word 0) t (l.invariant.3.was t c.top-t.ensures.hit)).1 in let found = c.requires.width_bound.1 a.word t c.top-t.ensures.below hit in let room = walk_room asked l.left l.used (total a.chosen.now (a.word + 1)) t l.invariant.3 c.top-t.ensures in let most = total_more a.chosen.now (a.word + 1) a.width (omega (arith, c.requires.width.2)) in (omega (arith, found.1, found.2), omega (arith, room, most, c.requires.width_bound.0)) in it).1 in
    let others = l.invariant.0 in
    let own = l.invariant.1 in
    let e : bit (slot_words a.width a.table.now a.slot a.word) t.result ≡ c.digit-v.result =
    sym (c.digit-v.ensures.0 ∙ ap (λ (x : ℕ). bit x t.result) c.value_word-value.ensures) in (
      simp length-set others,
      simp length-set own,
      filled_bit a.width a.table.now a.places.now a.count a.slot a.chosen.now a.starts.now l.others l.own a.word t.result c.digit-v.result l.used
          (omega arith) (omega arith) t.ensures.below c.digit-v.ensures.1 c.requires.width_bound.1 (l.invariant.3.was t.result t.ensures.hit) e l.invariant.2,
      rw c.drop_bit-left.ensures (walk_on asked l.left l.used (total a.chosen.now (a.word + 1)) t.result l.invariant.3 t.ensures),
    )

pub returns : goal.returns
returns c = (omega (arith, c.loop-left.invariant.3.fits), c.loop-left.invariant.2)
