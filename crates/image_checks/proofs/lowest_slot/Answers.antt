-- `image_checks::lowest_slot` meets its contract.
-- One above the slot of the entry before.
use mathlib.Core.Path.{◌≡◌, ap}
use Prim.Native.Nat.{ℕ, suc, ◌+◌, ◌-◌}
use native.Mathlib.Omega.{arith}
use borrow.Author.Rules.{rules}
use Rattle.image.specs.Bytes.{number_at}
use Rattle.image.specs.Checks.{lowest_slot}
use Rattle.image.proofs.BytesLaws.{number_small}
use Rattle.image_checks.proofs.lowest_slot.Goals as goal

pub overflow_add-result : goal.overflow_add-result
overflow_add-result c =
    let a = c.args in
    omega (arith, c.number_at.ensures, number_small 2 a.image.now (c.entry_place.result + 4) (λ i. search rules))

pub returns : goal.returns
returns c =
    let a = c.args in
    let back : suc (a.entry - 1) ≡ a.entry = omega arith in
    omega (arith, c.number_at.ensures, ap (λ (place : ℕ). number_at a.image.now (place + 4) 2) c.entry_place.ensures, ap (lowest_slot a.image.now) back)
