-- `bitmaps::bits::set_bit` meets its contract.
use mathlib.Core.Path.{ap}
use Prim.Native.Nat.{ℕ}
use lib.Bits.{bit_or}
use Rattle.bitmaps.specs.Flags.{with_bit}
use Rattle.bitmaps.proofs.bits.set_bit.Goals as goal

pub returns : goal.returns
unfolding with_bit
returns c = ap (λ (x : ℕ). bit_or c.args.word x) c.one_bit.ensures
