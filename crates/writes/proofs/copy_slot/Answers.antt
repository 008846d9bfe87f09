-- `writes::copy_slot` meets its contract.
-- The front of the record that was read is the slot's.
use mathlib.Core.Path.{sym, ap, ◌∙◌}
use native.Mathlib.Nat.{sub-zero}
use native.Mathlib.Omega.{arith}
use lib.ListN.{length, length-append}
use lib.Seq.{take_at}
use Rattle.records.specs.Record.{record_words, slot_words, put_slot}
use Rattle.records.proofs.RulesLaws.{length_listed}
use Rattle.writes.proofs.copy_slot.Goals as goal

pub slice_bounds-put_record-end : goal.slice_bounds-put_record-end
slice_bounds-put_record-end c =
    let a = c.args in
    let size = ap length c.read_record.ensures ∙ length_listed (record_words a.width) (slot_words a.width a.table.now a.from) in
    simp length-append (omega (arith, size, c.record_words-length.ensures))

pub returns : goal.returns
returns c =
    let a = c.args in
    let words = record_words a.width in
    let record_at_lem = slot_words a.width a.table.now a.from in
    let number = c.record_words-length in
    let size = ap length c.read_record.ensures ∙ (length_listed words record_at_lem ∙ (sym number.ensures ∙ sym (sub-zero number.result))) in
    c.put_record.ensures ∙ ap (put_slot a.width a.table.now a.to) (take_at _ _ _ size ∙ c.read_record.ensures)
