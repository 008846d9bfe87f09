-- `slots::slot_unsound` meets its contract.
-- Without an id the slot is no sound rule; with one its word of id and action is not 0, and the slot not empty.
use mathlib.Core.Path.{◌≡◌, sym, ap, ◌∙◌}
use mathlib.Core.Bool.{Bool, not, ◌&&◌, and-true}
use mathlib.Core.List.{List}
use Prim.Native.Nat.{ℕ}
use lib.Dec.{eqb}
use borrow.Author.Tests.{eq-eqb, ne_eqb}
use Rattle.ternary.specs.Pattern.{within}
use Rattle.records.specs.Record.{slot_words, value, mask, rank, ident, rank_fits, sound_parts}
use Rattle.records.specs.Checks.{unsound_at}
use Rattle.records.proofs.Laws.{ident_not_empty}
use Rattle.slots.proofs.slot_unsound.Goals as goal

-- what is left of the definition where the slot has an id
unsound-with-id : (w : ℕ) (t : List ℕ) (i id : ℕ) (bounded : Bool)
    → id ≡ ident w (slot_words w t i)
    → (id ≡ 0 → ⊥)
    → bounded ≡ (rank_fits w (rank w (slot_words w t i)) (mask w (slot_words w t i)) && within w (value (slot_words w t i)) (mask w (slot_words w t i)))
    → not bounded ≡ unsound_at w t i
unfolding unsound_at sound_parts
unsound-with-id w t i id bounded e present b =
    rw (ap (λ (k : ℕ). eqb k 0) (sym e) ∙ ne_eqb id 0 present, ident_not_empty w (slot_words w t i) (λ z. present (e ∙ z)), and-true) (ap not b)

pub returns-then-slot_id-eq0 : goal.returns-then-slot_id-eq0
unfolding unsound_at sound_parts
returns-then-slot_id-eq0 c =
    rw (ap (λ (id : ℕ). eqb id 0) (sym c.slot_id.ensures) ∙ eq-eqb _ 0 c.if-slot_id-eq0.true)
    (ap not c.slot_zero.ensures)

pub returns-then-slot_bounded : goal.returns-then-slot_bounded
returns-then-slot_bounded c =
    ap not (sym c.if-slot_bounded.true)
    ∙ unsound-with-id _ _ _ _ _ c.slot_id.ensures c.if-slot_id-eq0.false c.slot_bounded.ensures

pub returns : goal.returns
returns c =
    ap not (sym c.if-slot_bounded.false)
    ∙ unsound-with-id _ _ _ _ _ c.slot_id.ensures c.if-slot_id-eq0.false c.slot_bounded.ensures
