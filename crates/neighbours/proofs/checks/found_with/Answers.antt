-- `neighbours::checks::found_with` meets its contract.
-- The rule that is replaced decides; where there is none, 8 and 9 do.
use mathlib.Core.Path.{refl, sym, ap, ◌∙◌}
use Rattle.records.specs.Verdict.{checked}
use Rattle.records.specs.Record.{slot_words}
use Rattle.records.proofs.Laws.{is_refusal}
use Rattle.neighbours.specs.Neighbours.{found_check}
use Rattle.neighbours.proofs.NeighboursLaws.{search_found, search_none}
use Rattle.neighbours.proofs.checks.found_with.Goals as goal

pub returns-then-slot-slot_count : goal.returns-then-slot-slot_count
returns-then-slot-slot_count c =
    let a = c.args in
    let one = search_found a.mode.width a.mode.uncounted a.table.now (slot_words a.mode.width a.new.now 0)
    (rw (c.replaced_slot-slot.ensures, c.slot_count.ensures) at c.if-slot-slot_count.true) in
    record { result_value = rw one refl; found_in = (c.replaced_slot-slot.ensures, one) }

pub returns : goal.returns
returns c =
    let a = c.args in
    let none = search_none a.mode.width a.mode.uncounted a.table.now (slot_words a.mode.width a.new.now 0)
    (rw (c.replaced_slot-slot.ensures, c.slot_count.ensures) at c.if-slot-slot_count.false) in
    record { result_value = rw none (sym (ap checked c.in_ok-room.was)); found_in = none }

pub returns-in_err-room-clause-result_value : goal.returns-in_err-room-clause-result_value
returns-in_err-room-clause-result_value c =
    let a = c.args in
    let none = search_none a.mode.width a.mode.uncounted a.table.now (slot_words a.mode.width a.new.now 0)
    (rw (c.replaced_slot-slot.ensures, c.slot_count.ensures) at c.if-slot-slot_count.false) in
    ap found_check (is_refusal _ c.from_residual.ensures.1) ∙ rw none (sym (ap checked c.in_err-room.was))
