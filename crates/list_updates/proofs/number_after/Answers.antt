-- `list_updates::number_after` meets its contract.
-- Each return is one way in which a number comes out of a write.
use mathlib.Core.Path.{◌≡◌, sym, ap, ◌∙◌}
use Prim.Native.Nat.{ℕ, suc, ◌+◌}
use native.Mathlib.Omega.{arith}
use Rattle.positions.specs.Positions.{slot_at}
use Rattle.positions.proofs.PositionsLaws.{slot_below}
use Rattle.records.specs.Order.{slots}
use Rattle.list_updates.specs.Updates.{nearest_from}
use Rattle.list_updates.specs.UpdatesLaws.{number_written, number_searched, number_kept}
use Rattle.list_updates.proofs.number_after.Goals as goal

pub returns-then-bounded_by : goal.returns-then-bounded_by
returns-then-bounded_by c =
    let a = c.args in
    let was = c.requires.slot_bound.2 in
    number_written a.mode.width a.mode.uncounted a.table.now a.up a.written c.requires.width.1 c.requires.width.3 was.0 was.1 a.slot a.number c.requires.width.2 c.requires.slot_bound.0 was.2 c.requires.slot_bound.1 (sym c.bounded_by.ensures ∙ c.if-bounded_by.true)

pub overflow_add-slot_at : goal.overflow_add-slot_at
overflow_add-slot_at c =
    let a = c.args in
    let at = c.slot_at.ensures ∙ ap (λ (n : ℕ). slot_at n a.up a.written) c.slot_count-slots.ensures in
    omega (arith, at, slot_below (slots a.mode.width a.table.now) a.up a.written c.requires.width.3, c.requires.width.1)

pub search_along-requires : goal.search_along-requires
search_along-requires c =
    let a = c.args in
    let at = c.slot_at.ensures ∙ ap (λ (n : ℕ). slot_at n a.up a.written) c.slot_count-slots.ensures in
    (c.requires.width.0, c.requires.width.1, c.requires.width.2, omega (arith, at, slot_below (slots a.mode.width a.table.now) a.up a.written c.requires.width.3), c.requires.width.4)

pub returns-then-number-written : goal.returns-then-number-written
returns-then-number-written c =
    let a = c.args in
    let was = c.requires.slot_bound.2 in
    let at = c.slot_at.ensures ∙ ap (λ (n : ℕ). slot_at n a.up a.written) c.slot_count-slots.ensures in
    let next : c.slot_at.result + 1 ≡ suc (slot_at (slots a.mode.width a.table.now) a.up a.written) = omega (arith, at) in
    c.search_along.ensures
    ∙ (ap (nearest_from a.mode.width a.mode.uncounted a.table.now a.up a.slot) next
    ∙ number_searched a.mode.width a.mode.uncounted a.table.now a.up a.written c.requires.width.1 c.requires.width.3 was.0 was.1 a.slot a.number c.requires.width.2 c.requires.slot_bound.0 was.2 c.if-number-written.true (sym c.bounded_by.ensures ∙ c.if-bounded_by.false))

pub returns : goal.returns
returns c =
    let a = c.args in
    let was = c.requires.slot_bound.2 in
    number_kept a.mode.width a.mode.uncounted a.table.now a.up a.written c.requires.width.1 c.requires.width.3 was.0 was.1 a.slot a.number c.requires.width.2 c.requires.slot_bound.0 was.2 c.requires.slot_bound.1 c.if-number-written.false (sym c.bounded_by.ensures ∙ c.if-bounded_by.false)
