-- `image::fields::number_at` meets its contract.
-- The bytes passed are a number of as many digits to the base 256.
use mathlib.Core.Path.{◌≡◌}
use Prim.Native.Nat.{◌^◌, ◌≤◌, ◌<◌}
use Rattle.image.specs.Bytes.{number_at}
use Rattle.image.proofs.fields.number_at.Given as goal

abbrev pub invariant-loop-read : goal.invariant-loop-read
invariant-loop-read l = (l.read ≤ l.bytes) × (l.number ≡ number_at l.image l.at l.read) × (l.number < 256 ^ l.read)
