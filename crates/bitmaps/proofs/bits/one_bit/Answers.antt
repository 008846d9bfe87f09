-- `bitmaps::bits::one_bit` meets its contract: a shift below the width loses no bit.
use mathlib.Core.Path.{◌∙◌}
use native.Mathlib.Nat.{one-mul}
use native.Mathlib.Omega.{arith}
use lib.Dec.{lit<}
use lib.Pow.{shl_exact}
use Rattle.bitmaps.proofs.bits.one_bit.Goals as goal

pub returns : goal.returns
returns c = shl_exact {a = 1} 1 c.args.s 64 (lit< tt) (omega arith) ∙ one-mul _
