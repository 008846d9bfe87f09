-- `loads::copy_words` meets its contract.
-- The words passed are the other table's.
use mathlib.Core.Path.{refl, sym, ap, ◌∙◌}
use mathlib.Core.List.{List, [], ◌∷◌, ◌++◌}
use Prim.Native.Nat.{ℕ}
use native.Mathlib.Numerals.{add-one}
use native.Mathlib.Omega.{arith}
use lib.ListN.{get_or, length-set}
use lib.Seq.{take-suc, take-suc-set, take_all}
use Rattle.loads.proofs.copy_words.Goals as goal

pub loop-word-init : goal.loop-word-init
loop-word-init c = (omega arith, refl, refl)

pub loop-word-preserved : goal.loop-word-preserved
loop-word-preserved c =
    let turn = c.loop-word in
    let from = c.args.from.now in (
      omega arith,
      simp length-set turn.invariant.1,
      rw (add-one turn.word)
          (take-suc-set turn.to turn.word (get_or from turn.word 0) (omega arith)
          ∙ (ap (λ (front : List ℕ). front ++ (get_or from turn.word 0 ∷ [])) turn.invariant.2 ∙ sym (take-suc from turn.word 0 (omega arith)))),
    )

pub returns : goal.returns
returns c =
    let end = c.loop-word in
    sym (take_all end.word end.to (omega arith)) ∙ (end.invariant.2 ∙ take_all end.word c.args.from.now (omega arith))
