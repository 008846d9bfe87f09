-- `saves::count_rules` meets its contract.
-- As many rules are counted as stand in the slots passed.
use mathlib.Core.Path.{◌≡◌, refl, sym, ap, ◌∙◌}
use mathlib.Core.Bool.{not}
use Prim.Native.Nat.{ℕ}
use native.Mathlib.Omega.{arith}
use lib.ListN.{length}
use Rattle.records.specs.Order.{slots as slots_of}
use Rattle.image.specs.Indices.{indices}
use Rattle.image.specs.Format.{holds}
use Rattle.image.proofs.IndicesLaws.{count_high, count_more, count_same}
use Rattle.saves.proofs.count_rules.Goals as goal
use Rattle.saves.proofs.count_rules.Goals.{then-not-slot_vacant, else-not-slot_vacant}

pub slot_count-slots-requires : goal.slot_count-slots-requires
slot_count-slots-requires c = c.requires.0

pub loop-slot-init : goal.loop-slot-init
unfolding indices
loop-slot-init c = (omega arith, refl)

pub overflow_add-count : goal.overflow_add-count
overflow_add-count c =
    let a = c.args in
    omega (arith, count_high (holds a.width a.table.now) c.loop-slot.slot)

pub loop-slot-preserved : goal.loop-slot-preserved
loop-slot-preserved c =
    let turn = c.loop-slot in
    let a = c.args in
    let p = holds a.width a.table.now in
    let held = ap not (sym c.slot_vacant.ensures) in (
      omega arith,
      elim c.if-not-slot_vacant.branch [
        | then-not-slot_vacant w ↦ w.count-is ∙ count_more p turn.slot turn.invariant.1 (held ∙ w.if-not-slot_vacant.true-raw)
        | else-not-slot_vacant w ↦ w.count-is ∙ count_same p turn.slot turn.invariant.1 (held ∙ w.if-not-slot_vacant.false-raw)
      ],
    )

pub returns : goal.returns
returns c =
    let a = c.args in
    let end : c.loop-slot.slot ≡ slots_of a.width a.table.now = omega arith in
    c.loop-slot.invariant.1 ∙ ap (λ (n : ℕ). length (indices (holds a.width a.table.now) n)) end
