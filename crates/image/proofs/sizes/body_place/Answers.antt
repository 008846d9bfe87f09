-- `image::sizes::body_place` meets its contract.
-- A body has at most 88 bytes.
use mathlib.Core.Path.{ap}
use Prim.Native.Nat.{ℕ, ◌+◌, ◌*◌, ◌≤◌}
use native.Mathlib.Nat.{mul-le-mul_left}
use native.Mathlib.Omega.{arith}
use Rattle.image.proofs.sizes.body_place.Goals as goal

pub overflow_mul-result-2 : goal.overflow_mul-result-2
overflow_mul-result-2 c =
    let small : c.body_bytes.result ≤ 88 = omega (arith, c.body_bytes.ensures) in
    omega (arith, mul-le-mul_left c.args.rule small)

pub overflow_add-result-2 : goal.overflow_add-result-2
overflow_add-result-2 c =
    let small : c.body_bytes.result ≤ 88 = omega (arith, c.body_bytes.ensures) in
    omega (arith, mul-le-mul_left c.args.rule small)

pub returns : goal.returns
returns c = ap (λ (bytes : ℕ). 4 + c.args.rules * 10 + c.args.rule * bytes) c.body_bytes.ensures
