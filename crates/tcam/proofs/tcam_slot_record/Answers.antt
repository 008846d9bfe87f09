-- `tcam::tcam_slot_record` meets its contract.
-- The part's length tells whether the slot is shown.
use Rattle.std.specs.Prelude.{◌≡◌, refl, Bool, true, false, List, ℕ, ◌*◌, ◌≤◌, length}
use Rattle.std.proofs.Common.{sym, ap, ◌∙◌, arith}
use Rattle.records.proofs.Laws.{slot_within, slot_checks_length}
use Rattle.lookups.specs.Lookup.{shown_call, part_length_call}
use Rattle.lookups.proofs.LookupLaws.{shown_call_law, part_count, part_none, part_some, part_shown, part_hidden}
use Rattle.tcam.proofs.tcam_slot_record.Goals as goal

few : (w : ℕ) (t : List ℕ) (i : ℕ) → part_length_call w t i ≤ 12
few w t i = by (shown_call w t i) refl
  where
    by : (b : Bool) → shown_call w t i ≡ b → part_length_call w t i ≤ 12
    by true e = omega (arith, (part_shown w t i e).1, ((shown_call_law w t i).0 e).0.1)
    by false e = omega (arith, (part_hidden w t i e).1)

pub overflow_cast-words : goal.overflow_cast-words
overflow_cast-words c =
    let a = c.args in
    let count = ap length c.slot_record-part.ensures.result_value ∙ part_count a.width a.table.now a.slot in
    omega (arith, count, few a.width a.table.now a.slot)

pub returns-then-words-eq0 : goal.returns-then-words-eq0
returns-then-words-eq0 c =
    let a = c.args in
    let count = ap length c.slot_record-part.ensures.result_value ∙ part_count a.width a.table.now a.slot in
    let hidden = part_hidden a.width a.table.now a.slot (part_none a.width a.table.now a.slot (sym count ∙ c.if-words-eq0.true)) in
    record { value = sym hidden.1; first_after = sym hidden.0 }

pub overflow_mul-first : goal.overflow_mul-first
overflow_mul-first c =
    let a = c.args in
    let count = ap length c.slot_record-part.ensures.result_value ∙ part_count a.width a.table.now a.slot in
    let shown = part_some a.width a.table.now a.slot (λ e. c.if-words-eq0.false (count ∙ e)) in
    let start = ap (λ (k : ℕ). a.slot * k) (count ∙ (part_shown a.width a.table.now a.slot shown).1) in
    let s = (shown_call_law a.width a.table.now a.slot).0 shown in
    omega (arith, start, s.0.1, slot_within a.width a.table.now a.slot s.2, slot_checks_length a.width a.table.now s.1)

pub returns : goal.returns
returns c =
    let a = c.args in
    let count = ap length c.slot_record-part.ensures.result_value ∙ part_count a.width a.table.now a.slot in
    let shown = part_shown a.width a.table.now a.slot (part_some a.width a.table.now a.slot (λ e. c.if-words-eq0.false (count ∙ e))) in
    record { value = count; first_after = ap (λ (k : ℕ). a.slot * k) (count ∙ shown.1) ∙ sym shown.0 }
