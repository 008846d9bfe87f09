-- `image_checks::skip_passing` meets its contract.
-- Those below the loop's pass, in turn: each field of an entry that the loop goes on from is right.
use Prim.Native.Nat.{suc}
use mathlib.Core.Path.{sym, refl, ap, ◌∙◌}
use native.Mathlib.Numerals.{add-one}
use native.Mathlib.Omega.{arith}
use lib.Dec.{ltb, leb}
use borrow.Author.Tests.{ltb-true, leb-true}
use Rattle.search.specs.SearchLaws.{and_left, and_right}
use Rattle.image.proofs.ChecksLaws.{pass_start, pass_more, entry_law}
use Rattle.image_checks.proofs.skip_passing.Goals as goal

pub loop-entry-init : goal.loop-entry-init
loop-entry-init c = (pass_start _ _, refl)

pub returns-then-number_at-eq0 : goal.returns-then-number_at-eq0
returns-then-number_at-eq0 c = c.loop-entry.invariant.0

pub returns-then-not-lowest-slot : goal.returns-then-not-lowest-slot
returns-then-not-lowest-slot c = c.loop-entry.invariant.0

pub returns-then-offset-body_place : goal.returns-then-offset-body_place
returns-then-offset-body_place c = c.loop-entry.invariant.0

pub loop-entry-preserved : goal.loop-entry-preserved
loop-entry-preserved c =
    let a = c.args in
    let k = c.loop-entry.entry in
    let inv = c.loop-entry.invariant in
    let at = c.entry_place-at.ensures in
    let high = leb c.loop-entry.lowest c.number_at-slot.result in
    let low = ltb c.number_at-slot.result a.slots in
    let id = rw at at c.number_at.ensures in
    let slot = rw at at c.number_at-slot.ensures in
    let offset = rw at at c.number_at-offset.ensures in
    let right = (entry_law a.width a.image.now a.slots a.rules k).1 (
      λ z. c.if-number_at-eq0.false (id ∙ z),
      rw (sym slot) (ltb-true _ _ (and_right high low c.if-not-lowest-slot.false)),
      rw (sym slot, sym inv.1) (leb-true _ _ (and_left high low c.if-not-lowest-slot.false)),
      sym offset ∙ (c.if-offset-body_place.false ∙ c.body_place.ensures),
    ) in
    (pass_more _ _ _ inv.0 (omega arith) refl right, rw (add-one k, add-one c.number_at-slot.result) (ap suc slot))

pub returns : goal.returns
returns c = (omega arith, λ k l. c.loop-entry.invariant.0.1 k (omega arith))
