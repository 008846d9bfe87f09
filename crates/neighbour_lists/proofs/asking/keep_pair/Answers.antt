-- `neighbour_lists::asking::keep_pair` meets its contract.
-- In each answer: both lists after the first number is kept.
use mathlib.Core.Path.{◌≡◌, ap, ◌∙◌}
use mathlib.Core.List.{List}
use Prim.Native.Nat.{ℕ, ◌/◌}
use native.Mathlib.Omega.{arith}
use lib.ListN.{length, set}
use Rattle.neighbour_lists.specs.Row.{next_kept, closed}
use Rattle.neighbour_lists.proofs.RowLaws.{next_stored, next_left, both_stored, both_left, length_next}
use Rattle.neighbour_lists.proofs.MarksLaws.{closed_stored, closed_left}
use Rattle.neighbour_lists.proofs.asking.keep_pair.Goals as goal
use Rattle.neighbour_lists.proofs.asking.keep_pair.Goals.{then-near-slot, else-near-slot}

pub bounds-near-later : goal.bounds-near-later
bounds-near-later c =
    let a = c.args in
    let joined : (c.if-near-slot.near ≡ next_kept a.near.now a.slot a.later) × (c.if-near-slot.free ≡ closed a.near.now a.free.now a.slot) =
    elim c.if-near-slot.branch [
      | then-near-slot w ↦ (
        w.near-is ∙ next_stored a.near.now a.slot a.later w.if-near-slot.true,
        w.free-is ∙ (ap (λ (x : ℕ). set a.free.now (a.slot / 64) x) w.clear_bit.ensures ∙ closed_stored a.near.now a.free.now a.slot w.if-near-slot.true),
      )
      | else-near-slot w ↦ (w.near-is ∙ next_left a.near.now a.slot a.later w.if-near-slot.false, w.free-is ∙ closed_left a.near.now a.free.now a.slot w.if-near-slot.false)
    ] in
    omega (arith, ap (λ (l : List ℕ). length l) joined.0, length_next a.near.now a.slot a.later)

pub bounds-near-later-then-near-later : goal.bounds-near-later-then-near-later
bounds-near-later-then-near-later c =
    let a = c.args in
    let joined : (c.if-near-slot.near ≡ next_kept a.near.now a.slot a.later) × (c.if-near-slot.free ≡ closed a.near.now a.free.now a.slot) =
    elim c.if-near-slot.branch [
      | then-near-slot w ↦ (
        w.near-is ∙ next_stored a.near.now a.slot a.later w.if-near-slot.true,
        w.free-is ∙ (ap (λ (x : ℕ). set a.free.now (a.slot / 64) x) w.clear_bit.ensures ∙ closed_stored a.near.now a.free.now a.slot w.if-near-slot.true),
      )
      | else-near-slot w ↦ (w.near-is ∙ next_left a.near.now a.slot a.later w.if-near-slot.false, w.free-is ∙ closed_left a.near.now a.free.now a.slot w.if-near-slot.false)
    ] in
    omega (arith, ap (λ (l : List ℕ). length l) joined.0, length_next a.near.now a.slot a.later)

pub returns-then-near-later : goal.returns-then-near-later
returns-then-near-later c =
    let a = c.args in
    let joined : (c.if-near-slot.near ≡ next_kept a.near.now a.slot a.later) × (c.if-near-slot.free ≡ closed a.near.now a.free.now a.slot) =
    elim c.if-near-slot.branch [
      | then-near-slot w ↦ (
        w.near-is ∙ next_stored a.near.now a.slot a.later w.if-near-slot.true,
        w.free-is ∙ (ap (λ (x : ℕ). set a.free.now (a.slot / 64) x) w.clear_bit.ensures ∙ closed_stored a.near.now a.free.now a.slot w.if-near-slot.true),
      )
      | else-near-slot w ↦ (w.near-is ∙ next_left a.near.now a.slot a.later w.if-near-slot.false, w.free-is ∙ closed_left a.near.now a.free.now a.slot w.if-near-slot.false)
    ] in
    record { near_after = rw joined.0 (both_stored a.near.now a.slot a.later (rw joined.0 at c.if-near-later.true)); free_after = joined.1 }

pub returns-else-near-later : goal.returns-else-near-later
returns-else-near-later c =
    let a = c.args in
    let joined : (c.if-near-slot.near ≡ next_kept a.near.now a.slot a.later) × (c.if-near-slot.free ≡ closed a.near.now a.free.now a.slot) =
    elim c.if-near-slot.branch [
      | then-near-slot w ↦ (
        w.near-is ∙ next_stored a.near.now a.slot a.later w.if-near-slot.true,
        w.free-is ∙ (ap (λ (x : ℕ). set a.free.now (a.slot / 64) x) w.clear_bit.ensures ∙ closed_stored a.near.now a.free.now a.slot w.if-near-slot.true),
      )
      | else-near-slot w ↦ (w.near-is ∙ next_left a.near.now a.slot a.later w.if-near-slot.false, w.free-is ∙ closed_left a.near.now a.free.now a.slot w.if-near-slot.false)
    ] in
    record { near_after = joined.0 ∙ both_left a.near.now a.slot a.later (rw joined.0 at c.if-near-later.false); free_after = joined.1 }
