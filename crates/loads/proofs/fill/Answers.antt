-- `loads::fill` meets its contract.
-- The records of the entries passed stand in their slots.
use mathlib.Core.Path.{◌≡◌, refl, sym, ap, ap₂, ◌∙◌}
use mathlib.Core.List.{List}
use Prim.Native.Nat.{ℕ, ◌+◌, ◌/◌}
use native.Mathlib.Numerals.{add-one}
use native.Mathlib.Omega.{arith}
use Rattle.records.specs.Record.{record_words, put_slot}
use Rattle.image.specs.Bytes.{number_at}
use Rattle.image.specs.Format.{record_at}
use Rattle.image.specs.Checks.{rules_put}
use Rattle.loads.proofs.fill.Goals as goal

pub loop-entry-init : goal.loop-entry-init
unfolding rules_put
loop-entry-init c = (omega arith, refl, refl)

pub overflow_add-entry_place : goal.overflow_add-entry_place
overflow_add-entry_place c = omega (arith, c.entry_place.ensures)

pub number_at-slot-requires : goal.number_at-slot-requires
number_at-slot-requires c = omega (arith, c.entry_place.ensures)

pub put_meant-requires : goal.put_meant-requires
put_meant-requires c =
    let a = c.args in
    let turn = c.loop-entry in (
      c.requires.width.0,
      c.requires.width.1,
      c.loop-entry-test.true,
      c.requires.width.2,
      omega (
        arith,
        c.number_at-slot.ensures,
        ap (λ (place : ℕ). number_at a.image.now (place + 4) 2) c.entry_place.ensures,
        c.requires.by_index turn.entry c.loop-entry-test.true,
        ap (λ (n : ℕ). n / record_words a.width) turn.invariant.1,
      ),
    )

pub loop-entry-preserved : goal.loop-entry-preserved
unfolding rules_put
loop-entry-preserved c =
    let turn = c.loop-entry in
    let a = c.args in
    let x = record_at a.width a.image.now a.rules turn.entry in (
      omega arith,
      omega (arith, c.put_meant.auto, turn.invariant.1),
      c.put_meant.ensures
          ∙ (ap₂ (λ (t : List ℕ) (slot : ℕ). put_slot a.width t slot x) turn.invariant.2
          (c.number_at-slot.ensures ∙ ap (λ (place : ℕ). number_at a.image.now (place + 4) 2) c.entry_place.ensures)
          ∙ ap (rules_put a.width a.image.now a.rules a.table.now) (sym (add-one turn.entry))),
    )

pub returns : goal.returns
returns c =
    let a = c.args in
    let end : c.loop-entry.entry ≡ a.rules = omega arith in
    c.loop-entry.invariant.2 ∙ ap (rules_put a.width a.image.now a.rules a.table.now) end
