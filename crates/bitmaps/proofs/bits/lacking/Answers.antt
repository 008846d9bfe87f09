-- `bitmaps::bits::lacking` meets its contract.
use mathlib.Core.Path.{refl}
use Rattle.bitmaps.specs.Flags.{except, flipped}
use Rattle.bitmaps.proofs.bits.lacking.Goals as goal

pub returns : goal.returns
unfolding except flipped
returns c = refl
