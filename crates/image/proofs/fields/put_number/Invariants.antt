-- `image::fields::put_number` meets its contract.
-- What is left to store goes before what has been stored.
use mathlib.Core.Path.{◌≡◌}
use Prim.Native.Nat.{◌≤◌}
use lib.ListN.{length}
use Rattle.image.specs.Bytes.{bytes_of, store}
use Rattle.image.proofs.fields.put_number.Given as goal

abbrev pub invariant-loop-left : goal.invariant-loop-left
invariant-loop-left l = (l.left ≤ l.bytes) × (length l.image ≡ length l.initial.image) × (store l.image l.at (bytes_of l.left l.rest) ≡ store l.initial.image l.at (bytes_of l.bytes l.number))
