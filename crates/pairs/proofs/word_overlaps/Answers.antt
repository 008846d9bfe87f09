-- `pairs::word_overlaps` meets its contract.
-- The words read are the two slots', and the test is the same for either order of them.
use mathlib.Core.Path.{◌≡◌, ◌∙◌, ap₂}
use Prim.Native.Nat.{ℕ}
use lib.Bits.{bit_and, xor_comm, and_comm}
use lib.Dec.{eqb}
use Rattle.ternary.specs.Word.{agree, both}
use Rattle.records.specs.Record.{slot_words, value, mask}
use Rattle.pairs.proofs.word_overlaps.Goals as goal

swapped : (value mask other-value other-mask : ℕ) → agree other-value value (both other-mask mask) ≡ agree value other-value (both mask other-mask)
unfolding agree both
swapped value mask other-value other-mask = ap₂ (λ (x m : ℕ). eqb (bit_and x m) 0) (xor_comm other-value value) (and_comm other-mask mask)

pub returns : goal.returns
returns c =
    let a = c.args in
    let words = slot_words a.width a.table.now a.slot in
    let others = slot_words a.width a.others.now a.other in
    c.words_overlap.ensures
    ∙ rw (c.mask_word-2.ensures, c.value_word-2.ensures, c.mask_word.ensures, c.value_word.ensures)
    (swapped (value words a.index) (mask a.width words a.index) (value others a.index) (mask a.width others a.index))
