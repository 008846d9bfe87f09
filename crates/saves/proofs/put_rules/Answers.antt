-- `saves::put_rules` meets its contract.
-- The rules of the slots passed are stored, as many as were counted.
use mathlib.Core.Path.{◌≡◌, refl, sym, ap, ◌∙◌}
use mathlib.Core.Bool.{not}
use Prim.Native.Nat.{ℕ}
use native.Mathlib.Numerals.{add-one}
use native.Mathlib.Omega.{arith}
use lib.ListN.{length}
use Rattle.records.specs.Record.{slot_words, ident}
use Rattle.records.specs.Order.{slots as slots_of}
use Rattle.image.specs.Bytes.{store}
use Rattle.image.specs.Indices.{indices}
use Rattle.image.specs.Format.{holds, entry_place, body_place, entry_of, body_of, stored}
use Rattle.image.proofs.SaveLaws.{stored_none, rule_stored}
use Rattle.image.proofs.IndicesLaws.{count_more, count_same, count_high, index_at}
use Rattle.saves.proofs.put_rules.Goals as goal
use Rattle.saves.proofs.put_rules.Goals.{then-not-slot_vacant, else-not-slot_vacant}

pub loop-slot-init : goal.loop-slot-init
unfolding indices
loop-slot-init c =
    let asked = c.requires in
    (omega arith, refl, refl, stored_none _ _ _ (rw asked.2 at asked.3))

pub put_rule-requires : goal.put_rule-requires
put_rule-requires c =
    let turn = c.loop-slot in
    let a = c.args in
    let asked = c.requires in
    let p = holds a.width a.table.now in
    let found = index_at p (slots_of a.width a.table.now) turn.slot (omega arith) (ap not (sym c.slot_vacant.ensures) ∙ c.if-not-slot_vacant.true-raw) in (
      asked.0,
      omega (arith, count_high p (slots_of a.width a.table.now), asked.1, asked.2),
      omega (arith, found.0, turn.invariant.1, asked.2),
      omega arith,
      omega (arith, turn.invariant.2, asked.3),
    )

pub overflow_add-rule : goal.overflow_add-rule
overflow_add-rule c =
    let a = c.args in
    omega (arith, count_high (holds a.width a.table.now) c.loop-slot.slot, c.loop-slot.invariant.1)

pub loop-slot-preserved : goal.loop-slot-preserved
loop-slot-preserved c =
    let turn = c.loop-slot in
    let a = c.args in
    let asked = c.requires in
    let w = a.width in
    let t = a.table.now in
    let x = slot_words w t turn.slot in
    let held = ap not (sym c.slot_vacant.ensures) in
    elim c.if-not-slot_vacant.branch [
      | then-not-slot_vacant way ↦ (
        omega arith,
        way.rule-is ∙ count_more (holds w t) turn.slot turn.invariant.1 (held ∙ way.if-not-slot_vacant.true-raw),
        omega arith,
        way.image-is
            ∙ (way.put_rule.ensures
            ∙ (ap (λ (n : ℕ). store (store turn.image (entry_place turn.rule) (entry_of (ident w x) turn.slot (body_place w n turn.rule))) (body_place w n turn.rule) (body_of w x)) asked.2
            ∙ (rule_stored w t a.image.now (rw asked.2 at asked.3) turn.slot turn.rule (omega arith) (held ∙ way.if-not-slot_vacant.true-raw) turn.invariant.1 turn.invariant.3
            ∙ ap (stored w t a.image.now) (sym (way.rule-is ∙ add-one turn.rule))))),
      )
      | else-not-slot_vacant way ↦ (
        omega arith,
        way.rule-is ∙ count_same (holds w t) turn.slot turn.invariant.1 (held ∙ way.if-not-slot_vacant.false-raw),
        omega arith,
        way.image-is ∙ (turn.invariant.3 ∙ ap (stored w t a.image.now) (sym way.rule-is)),
      )
    ]

pub returns : goal.returns
returns c =
    let a = c.args in
    let end : c.loop-slot.slot ≡ slots_of a.width a.table.now = omega arith in
    c.loop-slot.invariant.3
    ∙ ap (stored a.width a.table.now a.image.now)
    (c.loop-slot.invariant.1 ∙ (ap (λ (n : ℕ). length (indices (holds a.width a.table.now) n)) end ∙ sym c.requires.2))
