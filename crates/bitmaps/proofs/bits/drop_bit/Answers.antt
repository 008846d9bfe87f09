-- `bitmaps::bits::drop_bit` meets its contract.
use mathlib.Core.Path.{ap, ◌∙◌}
use Prim.Native.Nat.{ℕ, ◌-◌}
use native.Mathlib.Omega.{arith}
use Rattle.bitmaps.specs.FlagsLaws.{turned_difference}
use Rattle.bitmaps.proofs.bits.drop_bit.Goals as goal

pub overflow_sub-result : goal.overflow_sub-result
overflow_sub-result c = let a = c.args in omega (arith, c.one_bit.ensures, (turned_difference a.word a.s c.requires.1).0)

pub returns : goal.returns
returns c =
    let a = c.args in
    ap (λ (x : ℕ). a.word - x) c.one_bit.ensures ∙ (turned_difference a.word a.s c.requires.1).1
