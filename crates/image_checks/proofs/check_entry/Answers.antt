-- `image_checks::check_entry` meets its contract.
-- Each return is the first field that is wrong, or all three are right.
use mathlib.Core.Path.{sym, ap, ◌∙◌}
use mathlib.Core.Bool.{Bool, not, ◌&&◌}
use Prim.Native.Nat.{ℕ}
use lib.Dec.{ltb, leb}
use borrow.Author.Tests.{eq-eqb, ne_eqb, not-true, not-false}
use Rattle.image.specs.Format.{entry_place}
use Rattle.image.specs.Checks.{check_entry}
use Rattle.image.proofs.ChecksLaws.{field_wrong, field_right, field_last, field_last_wrong}
use Rattle.image_checks.proofs.check_entry.Goals as goal

abbrev test : ℕ → ℕ → ℕ → Bool
test slot slots lowest = ltb slot slots && leb lowest slot

pub returns-then-number_at-eq0 : goal.returns-then-number_at-eq0
unfolding check_entry
returns-then-number_at-eq0 c =
    let a = c.args in
    rw c.entry_place-at.ensures (field_wrong (entry_place a.entry) _ (ap not (eq-eqb _ _ (sym (rw c.entry_place-at.ensures at c.number_at.ensures) ∙ c.if-number_at-eq0.true))))

pub returns-then-not-slot-slots : goal.returns-then-not-slot-slots
unfolding check_entry
returns-then-not-slot-slots c =
    let slot = rw c.entry_place-at.ensures at c.number_at-slot.ensures in
    rw c.entry_place-at.ensures
    (field_right _ (ap not (ne_eqb _ _ (λ z. c.if-number_at-eq0.false (rw c.entry_place-at.ensures at c.number_at.ensures ∙ z))))
    (field_wrong _ _ (rw (c.lowest_slot-lowest.ensures, slot) at (not-true (test c.number_at-slot.result c.args.slots c.lowest_slot-lowest.result) c.if-not-slot-slots.true-raw))))

pub returns-then-number_at-body_place : goal.returns-then-number_at-body_place
unfolding check_entry
returns-then-number_at-body_place c =
    let slot = rw c.entry_place-at.ensures at c.number_at-slot.ensures in
    rw c.entry_place-at.ensures
    (field_right _ (ap not (ne_eqb _ _ (λ z. c.if-number_at-eq0.false (rw c.entry_place-at.ensures at c.number_at.ensures ∙ z))))
    (field_right _ (rw (c.lowest_slot-lowest.ensures, slot) at (not-false (test c.number_at-slot.result c.args.slots c.lowest_slot-lowest.result) c.if-not-slot-slots.false-raw))
    (field_last_wrong _ (ne_eqb _ _ (λ z. c.if-number_at-body_place.true (rw c.entry_place-at.ensures at c.number_at-2.ensures ∙ (z ∙ sym c.body_place.ensures)))))))

pub returns : goal.returns
unfolding check_entry
returns c =
    let slot = rw c.entry_place-at.ensures at c.number_at-slot.ensures in
    (field_right _ (ap not (ne_eqb _ _ (λ z. c.if-number_at-eq0.false (rw c.entry_place-at.ensures at c.number_at.ensures ∙ z))))
    (field_right _ (rw (c.lowest_slot-lowest.ensures, slot) at (not-false (test c.number_at-slot.result c.args.slots c.lowest_slot-lowest.result) c.if-not-slot-slots.false-raw))
    (field_last _ (eq-eqb _ _ (sym (rw c.entry_place-at.ensures at c.number_at-2.ensures) ∙ (c.if-number_at-body_place.false ∙ c.body_place.ensures))))))
