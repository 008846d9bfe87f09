-- `image::fields::word_at` meets its contract.
-- Two halves of four bytes each are the eight bytes' number.
use mathlib.Core.Path.{sym, ap₂, ◌∙◌}
use Prim.Native.Nat.{ℕ, ◌+◌, ◌*◌}
use native.Mathlib.Omega.{arith}
use Rattle.std.proofs.Common.{rules}
use Rattle.image.proofs.BytesLaws.{number_small, number_halves}
use Rattle.image.proofs.fields.word_at.Goals as goal

pub overflow_mul-result : goal.overflow_mul-result
overflow_mul-result c =
    let a = c.args in
    let high = number_small 4 a.image.now a.at (λ i. search rules) in
    let low = number_small 4 a.image.now (a.at + 4) (λ i. search rules) in
    omega (arith, c.number_at-high.ensures, c.number_at-low.ensures, high, low)

pub overflow_add-result : goal.overflow_add-result
overflow_add-result c =
    let a = c.args in
    let high = number_small 4 a.image.now a.at (λ i. search rules) in
    let low = number_small 4 a.image.now (a.at + 4) (λ i. search rules) in
    omega (arith, c.number_at-high.ensures, c.number_at-low.ensures, high, low)

pub returns : goal.returns
returns c =
    let a = c.args in
    ap₂ (λ (high low : ℕ). high * 4294967296 + low) c.number_at-high.ensures c.number_at-low.ensures ∙ sym (number_halves a.image.now a.at)
