-- `neighbour_lists::passing::take_slot` meets its contract.
use mathlib.Core.Path.{◌≡◌, sym, ◌∙◌}
use mathlib.Core.Bool.{true, false}
use Prim.Native.Nat.{◌+◌, ◌*◌, ◌<◌}
use native.Mathlib.Omega.{arith}
use lib.ListN.{length, set, length-set}
use Rattle.records.specs.Record.{slot_words, empty}
use Rattle.neighbour_lists.proofs.PassLaws.{row_told, row_empty, taken_empty}
use Rattle.neighbour_lists.proofs.passing.take_slot.Goals as goal

pub bounds-near-slot-then-slot_vacant : goal.bounds-near-slot-then-slot_vacant
bounds-near-slot-then-slot_vacant c =
    simp length-set (omega (arith, c.requires.room.numbers, c.requires.width.2))

pub returns-then-slot_vacant : goal.returns-then-slot_vacant
returns-then-slot_vacant c =
    let a = c.args in
    let taken = c.requires.taken in
    let near : 2 * a.slot + 1 < length a.near.now = omega (arith, c.requires.room.numbers, c.requires.width.2) in
    let vacant : empty a.mode.width (slot_words a.mode.width a.table.now a.slot) ≡ true
    = sym c.slot_vacant.ensures ∙ c.if-slot_vacant.true in record {
      value = row_told a.mode.width a.mode.uncounted a.table.now (set a.near.now (2 * a.slot + 1) 65535) a.slot false
          (row_empty a.mode.width a.mode.uncounted a.table.now a.places.now a.near.now a.full.now a.free.now a.low.now a.maps.now a.slot near taken vacant);
      taken_2 = taken_empty a.mode.width a.mode.uncounted a.table.now a.places.now a.near.now a.full.now a.free.now a.low.now a.maps.now a.slot near taken vacant;
    }
