-- `bitmaps::bits::digit` meets its contract: a shift and `& 1` cut one digit out.
use Prim.Native.Nat.{◌/◌, ◌^◌}
use native.Mathlib.Nat.{mod-lt, zero-lt-suc}
use lib.Bits.{and_mask}
use Rattle.ternary.specs.Bit.{bit}
use Rattle.bitmaps.proofs.bits.digit.Goals as goal

pub returns : goal.returns
unfolding bit
returns c =
    let m = and_mask (c.args.word / 2 ^ c.args.s) 1 in
    (m, rw m (mod-lt (c.args.word / 2 ^ c.args.s) (zero-lt-suc 1)))
