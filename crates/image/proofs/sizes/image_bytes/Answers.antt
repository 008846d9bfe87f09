-- `image::sizes::image_bytes` meets its contract.
-- A rule takes at most 98 bytes.
use mathlib.Core.Path.{ap}
use Prim.Native.Nat.{ℕ, ◌+◌, ◌*◌, ◌≤◌}
use native.Mathlib.Nat.{mul-le-mul_left}
use native.Mathlib.Omega.{arith}
use Rattle.image.proofs.sizes.image_bytes.Goals as goal

pub overflow_mul-result : goal.overflow_mul-result
overflow_mul-result c =
    let small : 10 + c.body_bytes.result ≤ 98 = omega (arith, c.body_bytes.ensures) in
    omega (arith, mul-le-mul_left c.args.rules small)

pub overflow_add-result-2 : goal.overflow_add-result-2
overflow_add-result-2 c =
    let small : 10 + c.body_bytes.result ≤ 98 = omega (arith, c.body_bytes.ensures) in
    omega (arith, mul-le-mul_left c.args.rules small)

pub returns : goal.returns
returns c = ap (λ (bytes : ℕ). 4 + c.args.rules * (10 + bytes)) c.body_bytes.ensures
