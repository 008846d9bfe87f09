-- `list_updates::skip_unasked` meets its contract.
use mathlib.Core.Path.{sym, ap, ap₂, ◌∙◌}
use Prim.Native.Nat.{ℕ}
use native.Mathlib.Omega.{arith}
use lib.ListN.{get_or}
use Rattle.search.specs.SearchLaws.{none_from_start}
use Rattle.positions.specs.Positions.{slot_at}
use Rattle.positions.proofs.PositionsLaws.{slot_below}
use Rattle.records.specs.Order.{slots as slots_of}
use Rattle.list_updates.specs.Updates.{place_along, asks_number}
use Rattle.list_updates.specs.SearchesLaws.{place_below, none_from_more}
use Rattle.list_updates.proofs.skip_unasked.Goals as goal

pub loop-position-init : goal.loop-position-init
loop-position-init c =
    (c.slot_count-slots.ensures, c.slot_at-end.ensures ∙ ap (λ (n : ℕ). slot_at n c.args.up c.args.written) c.slot_count-slots.ensures, none_from_start _ _ _ c.requires.3)

pub slot_at-slot-requires : goal.slot_at-slot-requires
slot_at-slot-requires c =
    let inv = c.loop-position.invariant in
    omega (arith, inv.0, inv.1, slot_below (slots_of c.args.width c.args.table.now) c.args.up c.args.written c.requires.2)

pub place_along-requires : goal.place_along-requires
place_along-requires c =
    let inv = c.loop-position.invariant in
    let at = c.slot_at-slot.ensures ∙ ap (λ (n : ℕ). slot_at n c.args.up c.loop-position.position) inv.0 in
    omega (arith, at, slot_below (slots_of c.args.width c.args.table.now) c.args.up c.loop-position.position (omega (arith, inv.1, slot_below (slots_of c.args.width c.args.table.now) c.args.up c.args.written c.requires.2)), c.requires.1)

pub offset_bounds-list-place_along : goal.offset_bounds-list-place_along
offset_bounds-list-place_along c =
    let inv = c.loop-position.invariant in
    let at = c.slot_at-slot.ensures ∙ ap (λ (n : ℕ). slot_at n c.args.up c.loop-position.position) inv.0 in
    let below = slot_below (slots_of c.args.width c.args.table.now) c.args.up c.loop-position.position (omega (arith, inv.1, slot_below (slots_of c.args.width c.args.table.now) c.args.up c.args.written c.requires.2)) in
    omega (arith, c.place_along.ensures, place_below c.args.up (slots_of c.args.width c.args.table.now) c.slot_at-slot.result (omega (arith, at, below)), c.requires.1)

pub bounds-list-place_along : goal.bounds-list-place_along
bounds-list-place_along c =
    let inv = c.loop-position.invariant in
    let at = c.slot_at-slot.ensures ∙ ap (λ (n : ℕ). slot_at n c.args.up c.loop-position.position) inv.0 in
    let below = slot_below (slots_of c.args.width c.args.table.now) c.args.up c.loop-position.position (omega (arith, inv.1, slot_below (slots_of c.args.width c.args.table.now) c.args.up c.args.written c.requires.2)) in
    omega (arith, c.place_along.ensures, place_below c.args.up (slots_of c.args.width c.args.table.now) c.slot_at-slot.result (omega (arith, at, below)), c.requires.4)

pub asks-requires : goal.asks-requires
asks-requires c =
    let inv = c.loop-position.invariant in
    let at = c.slot_at-slot.ensures ∙ ap (λ (n : ℕ). slot_at n c.args.up c.loop-position.position) inv.0 in
    let below = slot_below (slots_of c.args.width c.args.table.now) c.args.up c.loop-position.position (omega (arith, inv.1, slot_below (slots_of c.args.width c.args.table.now) c.args.up c.args.written c.requires.2)) in
    (c.requires.0, c.requires.1, omega (arith, at, below), c.requires.2, c.requires.5)

pub returns-then-asks : goal.returns-then-asks
returns-then-asks c =
    let a = c.args in
    let inv = c.loop-position.invariant in
    let at = c.slot_at-slot.ensures ∙ ap (λ (n : ℕ). slot_at n a.up c.loop-position.position) inv.0 in
    let asked = sym c.asks.ensures ∙ c.if-asks.true in record {
      none_from = inv.2;
      result_value = λ l.
          ap₂ (λ (place slot : ℕ). asks_number a.width a.table.now (get_or a.list.now place 0) slot a.written a.vacant a.up)
          (ap (place_along a.up) (sym at) ∙ sym c.place_along.ensures) (sym at) ∙ asked;
    }

pub loop-position-preserved : goal.loop-position-preserved
loop-position-preserved c =
    let a = c.args in
    let inv = c.loop-position.invariant in
    let at = c.slot_at-slot.ensures ∙ ap (λ (n : ℕ). slot_at n a.up c.loop-position.position) inv.0 in
    let unasked = sym c.asks.ensures ∙ c.if-asks.false in (
      inv.0,
      inv.1,
      none_from_more _ _ _ _ inv.2 (omega (arith, inv.1))
          (ap₂ (λ (place slot : ℕ). asks_number a.width a.table.now (get_or a.list.now place 0) slot a.written a.vacant a.up)
          (ap (place_along a.up) (sym at) ∙ sym c.place_along.ensures) (sym at) ∙ unasked),
    )

pub returns : goal.returns
returns c =
    let inv = c.loop-position.invariant in
    record { none_from = (omega (arith, inv.1, inv.2.0, inv.2.1), omega (arith, inv.1), λ k l h. inv.2.2 k l (omega arith)); result_value = λ l. absurd (omega (arith, inv.1, l)) }
