-- `bitmaps::bits::has_bit` meets its contract.
use mathlib.Core.Path.{ap}
use Prim.Native.Nat.{ℕ}
use lib.Dec.{eqb}
use Rattle.bitmaps.specs.Flags.{on}
use Rattle.bitmaps.proofs.bits.has_bit.Goals as goal

pub returns : goal.returns
unfolding on
returns c = ap (λ (x : ℕ). eqb x 1) c.digit.ensures.0
