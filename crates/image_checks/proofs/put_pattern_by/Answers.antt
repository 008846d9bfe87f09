-- `image_checks::put_pattern_by` meets its contract.
-- The words passed are stored one behind another.
use mathlib.Core.Path.{◌≡◌, refl, sym, ap, ◌∙◌}
use mathlib.Core.List.{[], ◌∷◌}
use Prim.Native.Nat.{ℕ, ◌+◌, ◌*◌}
use native.Mathlib.Numerals.{add-one}
use native.Mathlib.Omega.{arith}
use lib.ListN.{set, length-set}
use Rattle.records.specs.Record.{listed}
use Rattle.records.proofs.RulesLaws.{length_listed}
use Rattle.image.specs.Bytes.{store}
use Rattle.image.proofs.BytesLaws.{store_none, store_one, store_then}
use Rattle.image.specs.Format.{body_word}
use Rattle.image_checks.proofs.put_pattern_by.Goals as goal

pub loop-word-init : goal.loop-word-init
unfolding listed
loop-word-init c = (omega arith, refl, sym (store_none _ _))

pub loop-word-preserved : goal.loop-word-preserved
unfolding listed
loop-word-preserved c =
    let turn = c.loop-word in
    let a = c.args in
    let f = body_word a.image.now a.at in
    let place = a.first + turn.word in (
      omega arith,
      length-set turn.table _ _ ∙ turn.invariant.1,
      rw (add-one turn.word)
          (store_then a.table.now a.first place (listed turn.word f) (f turn.word ∷ []) (omega arith) (omega (arith, length_listed turn.word f)) turn.invariant.2
          (ap (set turn.table place) c.word_at.ensures ∙ store_one turn.table place (f turn.word) (omega arith))),
    )

pub returns : goal.returns
returns c =
    let a = c.args in
    let end : c.loop-word.word ≡ 2 * a.width = omega arith in
    c.loop-word.invariant.2 ∙ ap (λ (n : ℕ). store a.table.now a.first (listed n (body_word a.image.now a.at))) end
