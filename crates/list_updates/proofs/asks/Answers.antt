-- `list_updates::asks` meets its contract.
use mathlib.Core.Path.{sym, ap, ◌∙◌}
use mathlib.Core.Bool.{not, true≢false}
use borrow.Author.Tests.{eq-eqb, ne_eqb}
use Rattle.list_updates.specs.Updates.{asks_number}
use Rattle.list_updates.proofs.asks.Goals.{then-not-vacant, else-not-vacant, then-reaches, else-reaches}
use Rattle.list_updates.proofs.asks.Goals as goal

pub returns-then-number-written : goal.returns-then-number-written
unfolding asks_number
returns-then-number-written c = eq-eqb _ _ c.if-number-written.true ∙ rw (eq-eqb _ _ c.if-number-written.true)

pub returns-then-may_overlap : goal.returns-then-may_overlap
unfolding asks_number
returns-then-may_overlap c =
    elim c.if-reaches.branch [
      | then-reaches w ↦
          elim c.if-not-vacant.branch [
            | then-not-vacant v ↦
                rw (ne_eqb _ _ c.if-number-written.false, v.if-not-vacant.true, sym v.reaches.ensures ∙ sym v.value-is ∙ w.if-reaches.true, sym w.may_overlap.ensures ∙ sym w.value-is ∙ c.if-may_overlap.true)
                (ap not c.slot_vacant.ensures)
            | else-not-vacant v ↦ absurd (true≢false (sym w.if-reaches.true ∙ v.value-is ∙ ap not v.if-not-vacant.false))
          ]
      | else-reaches w ↦ absurd (true≢false (sym c.if-may_overlap.true ∙ w.value-is ∙ w.if-reaches.false))
    ]

pub returns-else-may_overlap : goal.returns-else-may_overlap
unfolding asks_number
returns-else-may_overlap c =
    elim c.if-not-vacant.branch [
      | then-not-vacant v ↦
          elim c.if-reaches.branch [
            | then-reaches w ↦
                c.if-may_overlap.false
                ∙ rw (ne_eqb _ _ c.if-number-written.false, v.if-not-vacant.true, sym v.reaches.ensures ∙ sym v.value-is ∙ w.if-reaches.true, sym w.may_overlap.ensures ∙ sym w.value-is ∙ c.if-may_overlap.false)
            | else-reaches w ↦
                c.if-may_overlap.false
                ∙ rw (ne_eqb _ _ c.if-number-written.false, v.if-not-vacant.true, sym v.reaches.ensures ∙ sym v.value-is ∙ w.if-reaches.false)
          ]
      | else-not-vacant v ↦ c.if-may_overlap.false ∙ rw (ne_eqb _ _ c.if-number-written.false, v.if-not-vacant.false)
    ]
