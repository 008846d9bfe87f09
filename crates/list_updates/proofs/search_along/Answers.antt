-- `list_updates::search_along` meets its contract.
-- No slot before the loop's position bounds the slot.
use mathlib.Core.Path.{sym, ap, ◌∙◌}
use Prim.Native.Nat.{ℕ}
use native.Mathlib.Omega.{arith}
use Rattle.search.specs.SearchLaws.{none_from_start}
use Rattle.positions.specs.Positions.{slot_at}
use Rattle.positions.proofs.PositionsLaws.{slot_below}
use Rattle.records.specs.Order.{slots as slots_of}
use Rattle.list_updates.specs.Updates.{bounded_by, bounded_at}
use Rattle.list_updates.specs.SearchesLaws.{none_from_more, found_here, found_none}
use Rattle.list_updates.proofs.search_along.Goals as goal

pub loop-position-init : goal.loop-position-init
loop-position-init c = (c.slot_count-slots.ensures, none_from_start _ _ _ c.requires.3)

pub bounded_at-requires : goal.bounded_at-requires
bounded_at-requires c =
    let a = c.args in
    let inv = c.loop-position.invariant in
    let at = c.slot_at-other.ensures ∙ ap (λ (n : ℕ). slot_at n a.up c.loop-position.position) inv.0 in
    (c.requires.0, c.requires.2, omega (arith, at, slot_below (slots_of a.mode.width a.table.now) a.up c.loop-position.position (omega (arith, inv.0))), c.requires.4)

pub overflow_cast-result : goal.overflow_cast-result
overflow_cast-result c =
    let a = c.args in
    let inv = c.loop-position.invariant in
    let at = c.slot_at-other.ensures ∙ ap (λ (n : ℕ). slot_at n a.up c.loop-position.position) inv.0 in
    omega (arith, at, slot_below (slots_of a.mode.width a.table.now) a.up c.loop-position.position (omega (arith, inv.0)), c.requires.1)

pub returns-then-bounded_at : goal.returns-then-bounded_at
returns-then-bounded_at c =
    let a = c.args in
    let inv = c.loop-position.invariant in
    let at = c.slot_at-other.ensures ∙ ap (λ (n : ℕ). slot_at n a.up c.loop-position.position) inv.0 in
    at ∙ found_here _ a.up (bounded_at a.mode.width a.mode.uncounted a.table.now a.up a.slot) _ _ inv.1 (omega (arith, inv.0))
    (ap (bounded_by a.mode.width a.mode.uncounted a.table.now a.up a.slot) (sym at) ∙ (sym c.bounded_at.ensures ∙ c.if-bounded_at.true))

pub loop-position-preserved : goal.loop-position-preserved
loop-position-preserved c =
    let a = c.args in
    let inv = c.loop-position.invariant in
    let at = c.slot_at-other.ensures ∙ ap (λ (n : ℕ). slot_at n a.up c.loop-position.position) inv.0 in (
      inv.0,
      none_from_more (bounded_at a.mode.width a.mode.uncounted a.table.now a.up a.slot) _ _ _ inv.1 (omega (arith, inv.0))
          (ap (bounded_by a.mode.width a.mode.uncounted a.table.now a.up a.slot) (sym at) ∙ (sym c.bounded_at.ensures ∙ c.if-bounded_at.false)),
    )

pub returns : goal.returns
returns c =
    let a = c.args in
    let inv = c.loop-position.invariant in
    found_none _ a.up (bounded_at a.mode.width a.mode.uncounted a.table.now a.up a.slot) _ _ inv.1 (omega (arith, inv.0))
