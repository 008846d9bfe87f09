-- `windows::end_at` meets its contract.
-- The slot at the position exists; an empty one has no window.
use mathlib.Core.Path.{sym, ◌∙◌}
use native.Mathlib.Omega.{arith}
use Rattle.positions.proofs.PositionsLaws.{slot_below}
use Rattle.records.proofs.Laws.{slot_checks_law, table_checks_law}
use Rattle.windows.specs.WindowsLaws.{end_empty, end_window, window_high}
use Rattle.windows.specs.ListedLaws.{listed_window}
use Rattle.windows.proofs.end_at.Goals as goal

pub slot_vacant-requires : goal.slot_vacant-requires
slot_vacant-requires c =
    let a = c.args in record { width = (c.requires.width.0, omega (arith, c.slot_at-slot.ensures, slot_below c.slot_count-slots.result a.up a.position (omega arith))); table_value = ((slot_checks_law a.mode.width a.table.now).0 ((table_checks_law a.mode.width a.mode.uncounted a.table.now).0 c.requires.table_value.0).0).1 }

pub returns-then-slot_vacant : goal.returns-then-slot_vacant
returns-then-slot_vacant c =
    let a = c.args in
    sym (end_empty a.mode.width a.mode.uncounted a.table.now a.up a.position
    (rw (c.slot_at-slot.ensures, c.slot_count-slots.ensures) at (sym c.slot_vacant.ensures ∙ c.if-slot_vacant.true)))

pub overflow_cast-result : goal.overflow_cast-result
overflow_cast-result c =
    let a = c.args in
    omega (arith, rw c.slot_count-slots.ensures at c.window_end.ensures, listed_window a.mode.width a.mode.uncounted a.table.now a.near.now c.requires.table_value.0 c.requires.table_value.1 a.up a.position (omega arith), window_high a.mode.width a.mode.uncounted a.table.now a.up a.position)

pub returns : goal.returns
returns c =
    let a = c.args in
    rw c.slot_count-slots.ensures at c.window_end.ensures
    ∙ (listed_window a.mode.width a.mode.uncounted a.table.now a.near.now c.requires.table_value.0 c.requires.table_value.1 a.up a.position (omega arith)
    ∙ sym (end_window a.mode.width a.mode.uncounted a.table.now a.up a.position
    (rw (c.slot_at-slot.ensures, c.slot_count-slots.ensures) at (sym c.slot_vacant.ensures ∙ c.if-slot_vacant.false))))
