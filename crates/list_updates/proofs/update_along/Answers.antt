-- `list_updates::update_along` meets its contract.
-- The slots at positions below the loop's have their numbers, the others are as they were; the position's slot is asked.
use mathlib.Core.Path.{◌≡◌, refl, sym, ap, ◌∙◌, subst}
use Prim.Native.Nat.{ℕ}
use native.Mathlib.Omega.{arith}
use lib.ListN.{length-set}
use Rattle.positions.specs.Positions.{slot_at}
use Rattle.positions.proofs.PositionsLaws.{slot_below}
use Rattle.records.specs.Order.{slots as slots_of}
use Rattle.list_updates.specs.Updates.{number_along, place_along}
use Rattle.list_updates.specs.SearchesLaws.{place_below}
use Rattle.list_updates.specs.UpdatesLaws.{slot_turns, asked_reaches}
use Rattle.list_updates.specs.AlongLaws.{Updated, updated_start, updated_set, updated_skip, updated_all, number_before}
use Rattle.list_updates.proofs.update_along.Goals as goal

pub skip_unasked-position-requires : goal.skip_unasked-position-requires
skip_unasked-position-requires c =
    (c.requires.width.0, c.requires.width.1, c.requires.width.2, omega arith, c.requires.width.4, c.requires.width.3)

pub loop-position-init : goal.loop-position-init
loop-position-init c =
    let a = c.args in
    let last = c.slot_at-end.ensures ∙ ap (λ (m : ℕ). slot_at m a.up a.written) c.slot_count-slots.ensures in (
      c.slot_count-slots.ensures,
      last,
      c.slot_vacant-vacant.ensures,
      omega (arith, last, c.skip_unasked-position.ensures.none_from.1),
      refl,
      updated_skip a.mode.width a.mode.uncounted a.table.now a.up a.written c.requires.width.1 c.requires.width.2 a.list.now c.requires.along_before _ c.requires.width.0.0 c.slot_vacant-vacant.ensures a.list.now 0 _
          (updated_start a.mode.width a.mode.uncounted a.table.now a.up a.list.now) c.skip_unasked-position.ensures.none_from,
      λ l. c.skip_unasked-position.ensures.result_value (omega (arith, last, l)),
    )

pub slot_at-slot-requires : goal.slot_at-slot-requires
slot_at-slot-requires c =
    let a = c.args in
    let n = slots_of a.mode.width a.table.now in
    let inv = c.loop-position.invariant in
    let p = c.loop-position.position in
    let last = slot_below n a.up a.written c.requires.width.2 in
    omega (arith, inv.0, inv.1, last)

pub place_along-place-requires : goal.place_along-place-requires
place_along-place-requires c =
    let a = c.args in
    let n = slots_of a.mode.width a.table.now in
    let inv = c.loop-position.invariant in
    let p = c.loop-position.position in
    let last = slot_below n a.up a.written c.requires.width.2 in
    let below = slot_below n a.up p (omega (arith, inv.1, last)) in
    let at = c.slot_at-slot.ensures ∙ ap (λ (m : ℕ). slot_at m a.up p) inv.0 in
    omega (arith, at, below, c.requires.width.1)

pub offset_bounds-list-place : goal.offset_bounds-list-place
offset_bounds-list-place c =
    let a = c.args in
    let n = slots_of a.mode.width a.table.now in
    let inv = c.loop-position.invariant in
    let p = c.loop-position.position in
    let last = slot_below n a.up a.written c.requires.width.2 in
    let below = slot_below n a.up p (omega (arith, inv.1, last)) in
    let at = c.slot_at-slot.ensures ∙ ap (λ (m : ℕ). slot_at m a.up p) inv.0 in
    let place = c.place_along-place.ensures ∙ ap (place_along a.up) at in
    let fits = place_below a.up n (slot_at n a.up p) below in
    omega (arith, place, fits, c.requires.width.1)

pub bounds-list-place : goal.bounds-list-place
bounds-list-place c =
    let a = c.args in
    let n = slots_of a.mode.width a.table.now in
    let inv = c.loop-position.invariant in
    let p = c.loop-position.position in
    let last = slot_below n a.up a.written c.requires.width.2 in
    let below = slot_below n a.up p (omega (arith, inv.1, last)) in
    let at = c.slot_at-slot.ensures ∙ ap (λ (m : ℕ). slot_at m a.up p) inv.0 in
    let place = c.place_along-place.ensures ∙ ap (place_along a.up) at in
    let fits = place_below a.up n (slot_at n a.up p) below in
    omega (arith, place, fits, c.requires.width.4, inv.4)

pub number_after-requires : goal.number_after-requires
number_after-requires c =
    let a = c.args in
    let n = slots_of a.mode.width a.table.now in
    let inv = c.loop-position.invariant in
    let p = c.loop-position.position in
    let last = slot_below n a.up a.written c.requires.width.2 in
    let below = slot_below n a.up p (omega (arith, inv.1, last)) in
    let at = c.slot_at-slot.ensures ∙ ap (λ (m : ℕ). slot_at m a.up p) inv.0 in
    let place = c.place_along-place.ensures ∙ ap (place_along a.up) at in
    let reaches = asked_reaches a.mode.width a.table.now _ (slot_at n a.up p) a.written _ a.up (omega (arith, c.requires.width.1, c.requires.width.2)) (inv.6 (omega arith)) in record {
      width = (c.requires.width.0, c.requires.width.1, omega (arith, at, below), c.requires.width.2, c.requires.width.3);
      slot_bound = (
        rw at (omega (arith, slot_turns n a.up p (omega (arith, inv.1, last)), inv.1)),
        rw place reaches,
        rw (place, at) (number_before a.mode.width a.mode.uncounted a.table.now a.up a.written c.requires.width.1 c.requires.width.2 a.list.now c.requires.along_before _ p p inv.5 (omega arith) (omega (arith, inv.1, last))),
      );
    }

pub offset_bounds-list-place-in-loop-position : goal.offset_bounds-list-place-in-loop-position
offset_bounds-list-place-in-loop-position c =
    let a = c.args in
    let n = slots_of a.mode.width a.table.now in
    let inv = c.loop-position.invariant in
    let p = c.loop-position.position in
    let last = slot_below n a.up a.written c.requires.width.2 in
    let below = slot_below n a.up p (omega (arith, inv.1, last)) in
    let at = c.slot_at-slot.ensures ∙ ap (λ (m : ℕ). slot_at m a.up p) inv.0 in
    let place = c.place_along-place.ensures ∙ ap (place_along a.up) at in
    let fits = place_below a.up n (slot_at n a.up p) below in
    omega (arith, place, fits, c.requires.width.1)

pub bounds-list-place-in-loop-position : goal.bounds-list-place-in-loop-position
bounds-list-place-in-loop-position c =
    let a = c.args in
    let n = slots_of a.mode.width a.table.now in
    let inv = c.loop-position.invariant in
    let p = c.loop-position.position in
    let last = slot_below n a.up a.written c.requires.width.2 in
    let below = slot_below n a.up p (omega (arith, inv.1, last)) in
    let at = c.slot_at-slot.ensures ∙ ap (λ (m : ℕ). slot_at m a.up p) inv.0 in
    let place = c.place_along-place.ensures ∙ ap (place_along a.up) at in
    let fits = place_below a.up n (slot_at n a.up p) below in
    omega (arith, place, fits, c.requires.width.4, inv.4)

pub overflow_add-position : goal.overflow_add-position
overflow_add-position c =
    let a = c.args in
    let n = slots_of a.mode.width a.table.now in
    let inv = c.loop-position.invariant in
    let p = c.loop-position.position in
    let last = slot_below n a.up a.written c.requires.width.2 in
    omega (arith, inv.1, last, c.requires.width.1)

pub skip_unasked-position-requires-in-loop-position : goal.skip_unasked-position-requires-in-loop-position
skip_unasked-position-requires-in-loop-position c =
    let a = c.args in
    let n = slots_of a.mode.width a.table.now in
    let inv = c.loop-position.invariant in
    let p = c.loop-position.position in
    let last = slot_below n a.up a.written c.requires.width.2 in
    (c.requires.width.0, c.requires.width.1, c.requires.width.2, omega (arith, inv.1), omega (arith, c.requires.width.4, inv.4, length-set c.loop-position.list c.place_along-place.result c.number_after.result), c.requires.width.3)

pub loop-position-smaller : goal.loop-position-smaller
loop-position-smaller c =
    omega (arith, c.skip_unasked-position-in-loop-position.ensures.none_from.0)

pub loop-position-preserved : goal.loop-position-preserved
loop-position-preserved c =
    let a = c.args in
    let n = slots_of a.mode.width a.table.now in
    let inv = c.loop-position.invariant in
    let p = c.loop-position.position in
    let last = slot_below n a.up a.written c.requires.width.2 in
    let below = slot_below n a.up p (omega (arith, inv.1, last)) in
    let at = c.slot_at-slot.ensures ∙ ap (λ (m : ℕ). slot_at m a.up p) inv.0 in
    let place = c.place_along-place.ensures ∙ ap (place_along a.up) at in
    let l = c.loop-position.list in
    let v = c.number_after.result in
    let stored = updated_set a.mode.width a.mode.uncounted a.table.now a.up a.list.now l p v inv.5 (omega (arith, inv.1, last)) c.requires.width.4
    (c.number_after.ensures ∙ ap (number_along a.mode.width a.mode.uncounted a.table.now a.up) at) in (
      inv.0,
      inv.1,
      inv.2,
      omega (arith, inv.1, c.skip_unasked-position-in-loop-position.ensures.none_from.1),
      length-set l c.place_along-place.result v ∙ inv.4,
      updated_skip a.mode.width a.mode.uncounted a.table.now a.up a.written c.requires.width.1 c.requires.width.2 a.list.now c.requires.along_before _ c.requires.width.0.0 inv.2 _ _ _
          (rw place stored) c.skip_unasked-position-in-loop-position.ensures.none_from,
      λ h. c.skip_unasked-position-in-loop-position.ensures.result_value (omega (arith, inv.1, h)),
    )

pub own_number-requires : goal.own_number-requires
own_number-requires c =
    (c.requires.width.0, c.requires.width.1, c.requires.width.2, c.requires.width.3, c.loop-position.invariant.2)

pub place_along-requires : goal.place_along-requires
place_along-requires c =
    omega (arith, c.requires.width.1, c.requires.width.2)

pub offset_bounds-list-place_along : goal.offset_bounds-list-place_along
offset_bounds-list-place_along c =
    let a = c.args in
    let fits = place_below a.up (slots_of a.mode.width a.table.now) a.written c.requires.width.2 in
    omega (arith, c.place_along.ensures, fits, c.requires.width.1)

pub bounds-list-place_along : goal.bounds-list-place_along
bounds-list-place_along c =
    let a = c.args in
    let fits = place_below a.up (slots_of a.mode.width a.table.now) a.written c.requires.width.2 in
    omega (arith, c.place_along.ensures, fits, c.requires.width.4, c.loop-position.invariant.4)

pub returns : goal.returns
returns c =
    let a = c.args in
    let n = slots_of a.mode.width a.table.now in
    let inv = c.loop-position.invariant in
    let p = c.loop-position.position in
    let last = slot_below n a.up a.written c.requires.width.2 in
    let g = slot_at n a.up a.written in
    let turned = slot_turns n a.up a.written c.requires.width.2 in
    let done : p ≡ g = omega (arith, inv.1, inv.3) in
    let place = c.place_along.ensures ∙ ap (place_along a.up) (sym turned) in
    let stored = updated_set a.mode.width a.mode.uncounted a.table.now a.up a.list.now c.loop-position.list g c.own_number.result
    (subst (Updated a.mode.width a.mode.uncounted a.table.now a.up a.list.now c.loop-position.list) done inv.5) last c.requires.width.4
    (c.own_number.ensures ∙ ap (number_along a.mode.width a.mode.uncounted a.table.now a.up) (sym turned)) in
    record {
      listed_along = rw place (updated_all a.mode.width a.mode.uncounted a.table.now a.up a.written c.requires.width.1 c.requires.width.2 a.list.now c.requires.along_before _ stored);
      by_index = rw place stored.other;
    }
