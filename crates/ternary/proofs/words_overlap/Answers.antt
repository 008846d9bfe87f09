-- `ternary::words_overlap` meets its contract.
-- It masks by one mask and then by the other, and specs/Word.antt by the bits of both.
use mathlib.Core.Path.{ap}
use Prim.Native.Nat.{ℕ}
use lib.Bits.{bit_xor}
use lib.Dec.{eqb}
use Rattle.ternary.proofs.BitLaws.{and_assoc}
use Rattle.ternary.specs.Word.{agree, both}
use Rattle.ternary.proofs.words_overlap.Goals as goal

pub returns : goal.returns
unfolding agree both
returns c = let a = c.args in ap (λ (x : ℕ). eqb x 0) (and_assoc (bit_xor a.value a.other_value) a.mask a.other_mask)
