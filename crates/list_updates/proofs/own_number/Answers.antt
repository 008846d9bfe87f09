-- `list_updates::own_number` meets its contract.
use mathlib.Core.Path.{◌≡◌, sym, ap, ◌∙◌}
use Prim.Native.Nat.{ℕ, suc, ◌+◌}
use native.Mathlib.Omega.{arith}
use Rattle.positions.specs.Positions.{slot_at}
use Rattle.positions.proofs.PositionsLaws.{slot_below}
use Rattle.records.specs.Order.{slots}
use Rattle.list_updates.specs.Updates.{nearest_from}
use Rattle.list_updates.specs.SearchesLaws.{number_found}
use Rattle.list_updates.specs.UpdatesLaws.{empty_number}
use Rattle.list_updates.proofs.own_number.Goals as goal

pub returns-then-vacant : goal.returns-then-vacant
returns-then-vacant c =
    let a = c.args in
    empty_number a.mode.width a.mode.uncounted a.table.now a.up a.written c.requires.2 (sym c.requires.4 ∙ c.if-vacant.true)

pub overflow_add-slot_at : goal.overflow_add-slot_at
overflow_add-slot_at c =
    let a = c.args in
    let at = c.slot_at.ensures ∙ ap (λ (n : ℕ). slot_at n a.up a.written) c.slot_count-slots.ensures in
    omega (arith, at, slot_below (slots a.mode.width a.table.now) a.up a.written c.requires.2, c.requires.1)

pub search_along-requires : goal.search_along-requires
search_along-requires c =
    let a = c.args in
    let at = c.slot_at.ensures ∙ ap (λ (n : ℕ). slot_at n a.up a.written) c.slot_count-slots.ensures in
    (c.requires.0, c.requires.1, c.requires.2, omega (arith, at, slot_below (slots a.mode.width a.table.now) a.up a.written c.requires.2), c.requires.3)

pub returns : goal.returns
returns c =
    let a = c.args in
    let at = c.slot_at.ensures ∙ ap (λ (n : ℕ). slot_at n a.up a.written) c.slot_count-slots.ensures in
    let next : c.slot_at.result + 1 ≡ suc (slot_at (slots a.mode.width a.table.now) a.up a.written) = omega (arith, at) in
    c.search_along.ensures
    ∙ (ap (nearest_from a.mode.width a.mode.uncounted a.table.now a.up a.written) next
    ∙ sym (number_found a.mode.width a.mode.uncounted a.table.now a.up a.written c.requires.2))
