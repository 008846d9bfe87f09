-- Document 02, 2026-03, on words: what is promised of the planning of a rule that is sent again: one put-in at the slot of the rule that it replaces.
use Rattle.std.specs.Prelude.{◌≡◌, List, [], ◌∷◌, ℕ, ◌≤◌, ◌<◌, length, drop}
use Rattle.layout.specs.Write.{put}
use Rattle.plan_words.specs.PlanWords.{write_word}
use Rattle.records.specs.Checks.{Told, success, refusal}
use Rattle.records.specs.declared.Cause.TheVariants.{Short}

-- given a word of buffer the call plans that put-in, and counts one write; without one it declines with 11, and 1 as the words needed
pub record ReplacementPlanned (s : ℕ) (told : Told) (plan after : List ℕ) : Type 0 where
  pub enough : 1 ≤ length plan → (told ≡ success (1 ∷ [])) × (after ≡ write_word (put s) ∷ drop 1 plan)
  pub short : length plan < 1 → (told ≡ refusal Short 1) × (after ≡ plan)
