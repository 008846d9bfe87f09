-- `image::fields::put_number` meets its contract.
-- What is left to store goes before what has been stored.
use mathlib.Core.Path.{◌≡◌, refl, sym, ap, ◌∙◌}
use Prim.Native.Nat.{ℕ, suc, ◌-◌}
use native.Mathlib.Omega.{arith}
use lib.ListN.{length-set}
use Rattle.image.specs.Bytes.{bytes_of, store}
use Rattle.image.proofs.BytesLaws.{store_none, store_last}
use Rattle.image.proofs.fields.put_number.Goals as goal

pub loop-left-init : goal.loop-left-init
loop-left-init c = (omega arith, refl, refl)

pub loop-left-preserved : goal.loop-left-preserved
loop-left-preserved c =
    let turn = c.loop-left in
    let at = c.args.at in
    let back : suc (turn.left - 1) ≡ turn.left = omega arith in (
      omega arith,
      simp length-set turn.invariant.1,
      store_last turn.image at (turn.left - 1) turn.rest (omega arith)
          ∙ (ap (λ (k : ℕ). store turn.image at (bytes_of k turn.rest)) back ∙ turn.invariant.2),
    )

pub returns : goal.returns
unfolding bytes_of
returns c =
    let end = c.loop-left in
    let at = c.args.at in
    let none : end.left ≡ 0 = omega arith in
    sym (store_none end.image at) ∙ (ap (λ (k : ℕ). store end.image at (bytes_of k end.rest)) (sym none) ∙ end.invariant.2)
