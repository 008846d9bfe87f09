-- `bitmaps::bits::mark` meets its contract.
use Rattle.bitmaps.specs.Flags.{marked}
use Rattle.bitmaps.proofs.bits.mark.Goals as goal

pub returns : goal.returns
unfolding marked
returns c = rw c.set_bit.ensures
