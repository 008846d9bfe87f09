-- `neighbour_lists::passing::take_slots` meets its contract. The loop's invariant: the slots before `slot` are taken, and `first` is the
-- lowest of them that is out of order, or their number.
use mathlib.Core.Path.{◌≡◌, refl, ◌∙◌}
use native.Mathlib.Omega.{arith}
use lib.ListN.{length}
use Rattle.search.specs.Search.{least}
use Rattle.search.specs.SearchLaws.{least_law}
use Rattle.records.specs.Order.{slots}
use Rattle.records.specs.Checks.{disorder_at}
use Rattle.neighbour_lists.proofs.ListsLaws.{least_grows, least_stays}
use Rattle.neighbour_lists.proofs.PassLaws.{taken_listed, room_kept}
use Rattle.neighbour_lists.proofs.passing.take_slots.Goals as goal
use Rattle.neighbour_lists.proofs.passing.take_slots.Goals.{then-first-slot, else-first-slot}

pub slot_count-slots-requires : goal.slot_count-slots-requires
slot_count-slots-requires c = c.requires.width.0

pub loop-slot-init : goal.loop-slot-init
unfolding least
loop-slot-init c = (omega arith, refl, refl, refl, refl, refl, refl, refl, refl, c.requires.taken)

pub take_slot-bad-requires : goal.take_slot-bad-requires
take_slot-bad-requires c =
    let a = c.args in
    let turn = c.loop-slot in
    let i = turn.invariant in record {
      width = (c.requires.width.0, c.requires.width.1, omega (arith, c.loop-slot-test.true, c.slot_count-slots.ensures), c.requires.width.2);
      room = room_kept a.mode.width (slots a.mode.width a.table.now) a.near.now a.full.now a.free.now a.low.now a.maps.now a.places.now (length a.places.now) a.chosen.now a.starts.now a.others.now a.own.now
          turn.near turn.full turn.free turn.low turn.maps turn.others turn.own i.2 i.3 i.4 i.5 i.6 i.7 i.8 c.requires.room;
      taken = i.9;
    }

pub overflow_add-first : goal.overflow_add-first
overflow_add-first c =
    let turn = c.loop-slot in
    omega (arith, c.requires.width.1, c.slot_count-slots.ensures, c.loop-slot-test.true, turn.invariant.1, (least_law (disorder_at c.args.mode.width c.args.mode.uncounted c.args.table.now) turn.slot 0).high)

pub loop-slot-preserved : goal.loop-slot-preserved
loop-slot-preserved c =
    let a = c.args in
    let turn = c.loop-slot in
    let i = turn.invariant in (
      omega (arith, c.loop-slot-test.true),
      elim c.if-first-slot.branch [
        | then-first-slot w ↦ w.first-is ∙ least_grows (disorder_at a.mode.width a.mode.uncounted a.table.now) turn.slot turn.first c.take_slot-bad.result i.1 c.take_slot-bad.ensures.value w.if-first-slot.true
        | else-first-slot w ↦ w.first-is ∙ least_stays (disorder_at a.mode.width a.mode.uncounted a.table.now) turn.slot turn.first c.take_slot-bad.result i.1 c.take_slot-bad.ensures.value w.if-first-slot.false
      ],
      c.take_slot-bad.auto.near ∙ i.2,
      c.take_slot-bad.auto.full ∙ i.3,
      c.take_slot-bad.auto.free ∙ i.4,
      c.take_slot-bad.auto.low ∙ i.5,
      c.take_slot-bad.auto.maps ∙ i.6,
      c.take_slot-bad.auto.others ∙ i.7,
      c.take_slot-bad.auto.own ∙ i.8,
      c.take_slot-bad.ensures.taken_2,
    )

pub returns : goal.returns
returns c =
    let a = c.args in
    let turn = c.loop-slot in
    let done : turn.slot ≡ slots a.mode.width a.table.now = omega (arith, c.slot_count-slots.ensures) in record { value = rw done at turn.invariant.1; listed = taken_listed a.mode.width a.mode.uncounted a.table.now a.places.now turn.near turn.full turn.free turn.low turn.maps (omega (arith, c.requires.width.1)) (rw done at turn.invariant.9) }
