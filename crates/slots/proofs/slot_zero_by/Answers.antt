-- `slots::slot_zero_by` meets its contract.
-- The flag says whether the words below the loop's are zero.
use mathlib.Core.Path.{◌≡◌, refl, sym, ap, ap₂, ◌∙◌}
use mathlib.Core.Bool.{◌&&◌}
use Prim.Native.Nat.{ℕ}
use native.Mathlib.Omega.{arith}
use native.Mathlib.Numerals.{add-one}
use lib.Dec.{eqb}
use Rattle.search.specs.Search.{all}
use Rattle.records.specs.Record.{record_words, empty}
use Rattle.slots.proofs.slot_zero_by.Goals as goal

pub loop-index-init : goal.loop-index-init
unfolding all
loop-index-init c = (omega arith, refl)

pub slot_word-requires : goal.slot_word-requires
slot_word-requires c = (c.requires.0, c.requires.1, omega arith)

pub loop-index-preserved : goal.loop-index-preserved
unfolding all
loop-index-preserved c =
    let l = c.loop-index in
    (omega arith, ap₂ ◌&&◌ l.invariant.1 (ap (λ (x : ℕ). eqb x 0) c.slot_word.ensures) ∙ ap (all _) (sym (add-one l.index)))

pub returns : goal.returns
unfolding empty
returns c =
    let l = c.loop-index in
    let done : l.index ≡ record_words c.args.width = omega arith in
    l.invariant.1 ∙ ap (all _) done
