-- `lookups::lookup::slot_record` meets its contract.
-- A slot that is shown lies within the table; its part begins where the definition says.
-- a slot that is shown lies within the table
use mathlib.Core.Path.{◌≡◌, refl, sym, ap, ap₂, ◌∙◌}
use Prim.Native.Nat.{ℕ, ◌+◌, ◌-◌, ◌*◌, ◌≤◌}
use native.Mathlib.Omega.{arith}
use lib.ListN.{length, take, drop}
use Rattle.records.proofs.Laws.{slot_within}
use Rattle.lookups.specs.Lookup.{part_start_call, part_length_call}
use Rattle.lookups.proofs.LookupLaws.{shown_call_law, part_shown, part_hidden}
use Rattle.lookups.proofs.lookup.slot_record.Goals as goal

within : (c : goal.After-record_words-words)
    → c.args.slot * c.record_words-words.result + c.record_words-words.result ≤ length c.args.table.now
within c =
    let start = c.args in
    rw c.record_words-words.ensures (slot_within start.width start.table.now start.slot ((shown_call_law _ _ _).0 (sym c.slot_shown.ensures ∙ c.if-slot_shown.true)).2)

pub record_words-words-requires : goal.record_words-words-requires
record_words-words-requires c = ((shown_call_law _ _ _).0 (sym c.slot_shown.ensures ∙ c.if-slot_shown.true)).0.1

pub overflow_mul-first : goal.overflow_mul-first
overflow_mul-first c = omega (arith, within c)

pub overflow_add-result : goal.overflow_add-result
overflow_add-result c = omega (arith, within c)

pub offset_bounds-table-first : goal.offset_bounds-table-first
offset_bounds-table-first c = omega (arith, within c)

pub slice_bounds-result-end : goal.slice_bounds-result-end
slice_bounds-result-end c = omega (arith, within c)

pub returns-then-slot_shown : goal.returns-then-slot_shown
returns-then-slot_shown c =
    let start = c.args in
    let t = start.table in
    let i = start.slot in
    let words = c.record_words-words.result in
    let p = part_shown start.width t.now i (sym c.slot_shown.ensures ∙ c.if-slot_shown.true) in
    let first : i * words ≡ part_start_call start.width t.now i = ap (λ (k : ℕ). i * k) c.record_words-words.ensures ∙ sym p.0 in
    let size : (i * words + words) - i * words ≡ part_length_call start.width t.now i = omega (arith, c.record_words-words.ensures, p.1) in
    record { result_value = ap₂ (λ (n k : ℕ). take n (drop k t.now)) size first; ref_ptr_value = (refl, ap (λ (k : ℕ). k * 8 + t.ref_ptr.1) first) }

pub returns : goal.returns
returns c =
    let t = c.args.table in
    let i = c.args.slot in
    let p = part_hidden _ t.now i (sym c.slot_shown.ensures ∙ c.if-slot_shown.false) in
    record { result_value = ap₂ (λ (n k : ℕ). take n (drop k t.now)) (sym p.1) (sym p.0); ref_ptr_value = (refl, ap (λ (k : ℕ). k * 8 + t.ref_ptr.1) (sym p.0)) }
