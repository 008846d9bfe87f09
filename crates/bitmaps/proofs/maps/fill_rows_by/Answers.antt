-- `bitmaps::maps::fill_rows_by` meets its contract. The loop's invariant: the rows of the words passed, no more than places chosen in them.
use mathlib.Core.Path.{◌≡◌, refl}
use native.Mathlib.Omega.{arith}
use Rattle.bitmaps.proofs.maps.fill_rows_by.Goals as goal

pub loop-word-init : goal.loop-word-init
loop-word-init c = (omega arith, refl, refl, omega arith, λ m h. absurd (omega arith))

pub fill_word-used-requires : goal.fill_word-used-requires
fill_word-used-requires c =
    let l = c.loop-word in
    let p = c.requires.width in
    record {
      width = (p.0, p.1, omega arith, p.2, p.3, p.4, omega (arith, l.invariant.1, p.5), omega (arith, l.invariant.2, p.6), l.invariant.3);
      width_bound = c.requires.width_bound;
      rows_of = l.invariant.4;
    }

pub loop-word-preserved : goal.loop-word-preserved
loop-word-preserved c =
    let inv = c.loop-word.invariant in
    (omega arith, omega arith, omega arith, c.fill_word-used.ensures.0, c.fill_word-used.ensures.1)

pub returns : goal.returns
returns c =
    let l = c.loop-word in
    let end : c.args.width ≡ l.word = omega (arith, l.invariant.0) in
    (omega (arith, l.invariant.3, (rw end at c.requires.width_bound.0)), l.invariant.4)
