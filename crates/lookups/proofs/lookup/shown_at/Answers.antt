-- `lookups::lookup::shown_at` meets its contract.
-- The checks pass, the slot is present, and it is occupied.
use mathlib.Core.Bool.{not, true≢false}
use mathlib.Core.Path.{refl, sym, ap, ◌∙◌}
use borrow.Author.Tests.{ltb-true}
use Rattle.search.specs.SearchLaws.{and_more, and_stop}
use Rattle.records.specs.Checks.{passes}
use Rattle.records.proofs.Laws.{checked_ok}
use Rattle.lookups.specs.Lookup.{shown}
use Rattle.lookups.proofs.LookupLaws.{declined}
use Rattle.lookups.proofs.lookup.shown_at.Goals.{then-is_ok, else-is_ok}
use Rattle.lookups.proofs.lookup.shown_at.Goals as goal

pub slot_empty-requires : goal.slot_empty-requires
slot_empty-requires c =
    elim c.if-is_ok.branch [
      | then-is_ok w ↦ (c.requires, rw w.slot_count.ensures at (ltb-true _ _ (sym w.value-is ∙ c.if-slot-slot_count.true)))
      | else-is_ok w ↦ absurd (true≢false (sym c.if-slot-slot_count.true ∙ w.value-is ∙ w.if-is_ok.false))
    ]

pub returns-then-slot-slot_count : goal.returns-then-slot-slot_count
unfolding shown
returns-then-slot-slot_count c =
    elim c.if-is_ok.branch [
      | then-is_ok w ↦
          and_more (ap passes c.check_slots.ensures) (ap passes (checked_ok _ (c.is_ok.ensures.negation ∙ ap not w.if-is_ok.true)))
          (and_more refl (rw w.slot_count.ensures at (sym w.value-is ∙ c.if-slot-slot_count.true)) (ap not c.slot_empty.ensures))
      | else-is_ok w ↦ absurd (true≢false (sym c.if-slot-slot_count.true ∙ w.value-is ∙ w.if-is_ok.false))
    ]

pub returns-else-slot-slot_count : goal.returns-else-slot-slot_count
unfolding shown
returns-else-slot-slot_count c =
    elim c.if-is_ok.branch [
      | then-is_ok w ↦
          c.if-slot-slot_count.false
          ∙ and_more (ap passes c.check_slots.ensures) (ap passes (checked_ok _ (c.is_ok.ensures.negation ∙ ap not w.if-is_ok.true)))
          (and_stop _ refl (rw w.slot_count.ensures at (sym w.value-is ∙ c.if-slot-slot_count.false)))
      | else-is_ok w ↦
          c.if-slot-slot_count.false
          ∙ and_stop _ (ap passes c.check_slots.ensures) (declined _ (c.is_ok.ensures.negation ∙ ap not w.if-is_ok.false))
    ]
