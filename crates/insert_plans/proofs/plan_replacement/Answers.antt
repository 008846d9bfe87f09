-- `insert_plans::plan_replacement` meets its contract.
-- The one word puts the rule in.
use mathlib.Core.Path.{ap, ◌∙◌}
use mathlib.Core.List.{[], ◌∷◌}
use Prim.Native.Nat.{ℕ}
use Rattle.records.specs.Verdict.{Pass}
use Rattle.buffers.specs.Buffers.{buffer_after}
use Rattle.insert_plans.proofs.plan_replacement.Goals as goal

pub returns : goal.returns
returns c =
    record { result_value = c.answer_word.ensures.result_value; plan_after = c.answer_word.ensures.plan_after ∙ ap (λ (word : ℕ). buffer_after Pass (word ∷ []) c.args.plan.now) c.word_of.ensures }
