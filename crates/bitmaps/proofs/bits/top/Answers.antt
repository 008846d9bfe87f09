-- `bitmaps::bits::top` meets its contract: a word that is not 0 has at most 63 leading zeros.
use native.Mathlib.Omega.{arith}
use lib.Count.{leading_top}
use Rattle.bitmaps.specs.FlagsLaws.{top_law}
use Rattle.bitmaps.proofs.bits.top.Goals as goal

pub overflow_cast-result : goal.overflow_cast-result
overflow_cast-result c = omega (arith, (leading_top 64 c.args.word c.requires c.ranges.word.fits).1)

pub overflow_sub-result : goal.overflow_sub-result
overflow_sub-result c = omega (arith, (leading_top 64 c.args.word c.requires c.ranges.word.fits).1)

pub returns : goal.returns
returns c = top_law c.args.word c.requires c.ranges.word.fits
