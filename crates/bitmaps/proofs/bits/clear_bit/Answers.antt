-- `bitmaps::bits::clear_bit` meets its contract.
use mathlib.Core.Path.{ap, ◌∙◌}
use Prim.Native.Nat.{ℕ}
use Rattle.bitmaps.specs.Flags.{cleared, except}
use Rattle.bitmaps.proofs.bits.clear_bit.Goals as goal

pub returns : goal.returns
unfolding cleared
returns c = c.lacking.ensures ∙ ap (λ (x : ℕ). except c.args.word x) c.one_bit.ensures
