-- `slots::slot_empty` meets its contract.
-- A slot whose word of id and action is not 0 is not empty.
use mathlib.Core.Path.{sym, ap, ◌∙◌}
use Prim.Native.Nat.{ℕ}
use native.Mathlib.Omega.{arith}
use lib.Dec.{eqb}
use borrow.Author.Tests.{ne_eqb}
use Rattle.search.specs.SearchLaws.{all_not}
use Rattle.records.specs.Record.{empty}
use Rattle.slots.proofs.slot_empty.Goals as goal

pub returns-else-named_word-eq0 : goal.returns-else-named_word-eq0
unfolding empty
returns-else-named_word-eq0 c =
    let named = ne_eqb _ 0 c.if-named_word-eq0.false in
    named ∙ sym (all_not _ _ _ (omega arith) (ap (λ (x : ℕ). eqb x 0) (sym c.named_word.ensures) ∙ named))
