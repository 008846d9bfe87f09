-- `buffers::answer_word` meets its contract.
-- A buffer without a word is left as it was.
use mathlib.Core.Path.{refl, ◌∙◌}
use mathlib.Core.List.{[], ◌∷◌}
use native.Mathlib.Omega.{arith}
use lib.Seq.{set_split}
use Rattle.buffers.proofs.BuffersLaws.{buffer_short, buffer_written}
use Rattle.buffers.proofs.answer_word.Goals as goal

pub returns-then-plan-lt1 : goal.returns-then-plan-lt1
returns-then-plan-lt1 c = let both = buffer_short (c.args.word ∷ []) _ refl refl c.if-plan-lt1.true in record { result_value = both.0; plan_after = both.1 }

pub returns : goal.returns
returns c =
    let a = c.args in
    let p = buffer_written (a.word ∷ []) a.plan.now refl refl (omega arith) in
    record { result_value = p.0; plan_after = set_split a.plan.now 0 a.word (omega arith) ∙ p.1 }
