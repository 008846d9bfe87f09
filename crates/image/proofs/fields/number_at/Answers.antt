-- `image::fields::number_at` meets its contract.
-- The bytes passed are a number of as many digits to the base 256.
use mathlib.Core.Path.{◌≡◌, refl, ap, ap₂, ◌∙◌}
use Prim.Native.Nat.{ℕ, ◌+◌, ◌*◌, ◌<◌}
use native.Mathlib.Nat.{pow-suc}
use native.Mathlib.Numerals.{add-one}
use native.Mathlib.Omega.{arith}
use lib.Arith.{digits_lt}
use Rattle.image.specs.Bytes.{number_at}
use Rattle.image.proofs.BytesLaws.{digit_room}
use Rattle.image.proofs.fields.number_at.Goals as goal

byte : (c : goal.After-from-byte) → c.from-byte.result < 256
byte c =
    let turn = c.loop-read in
    omega arith

-- one digit more fits
room : (c : goal.After-from-byte) → c.loop-read.number * 256 + c.from-byte.result < 18446744073709551616
room c = digit_room c.loop-read.invariant.2 (omega arith) (byte c)

pub loop-read-init : goal.loop-read-init
unfolding number_at
loop-read-init c = (omega arith, refl, omega arith)

pub overflow_mul-number : goal.overflow_mul-number
overflow_mul-number c = omega (arith, room c, byte c)

pub overflow_add-number : goal.overflow_add-number
overflow_add-number c = omega (arith, room c, byte c)

pub loop-read-preserved : goal.loop-read-preserved
unfolding number_at
loop-read-preserved c =
    let turn = c.loop-read in (
      omega arith,
      rw (add-one turn.read) (ap₂ (λ (n d : ℕ). n * 256 + d) turn.invariant.1 c.from-byte.ensures),
      rw (add-one turn.read, pow-suc 256 turn.read) (digits_lt turn.invariant.2 (byte c)),
    )

pub returns : goal.returns
returns c =
    let end : c.loop-read.read ≡ c.args.bytes = omega arith in
    c.loop-read.invariant.1 ∙ ap (number_at _ _) end
