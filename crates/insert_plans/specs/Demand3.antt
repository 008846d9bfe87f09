-- Demand 3, on words: what is promised of an insert that can be planned: its plan, its count, and that no sequence of the class is shorter.
-- Stated of the definitions that the planning call is equated with, and as a clause of that call.
use Rattle.std.specs.Prelude.{◌≡◌, Bool, List, [], ◌∷◌, ◌++◌, ℕ, suc, ◌≤◌, ◌<◌, length, take, drop}
use Rattle.layout.specs.Valid.{Between, Placed}
use Rattle.records.specs.Record.{record_of}
use Rattle.records.specs.Order.{slots}
use Rattle.records.specs.Checks.{Told, success}
use Rattle.records.specs.Entries.{vacant, entries, entry_occupied, entry_same, entry_misordered}
use Rattle.records.specs.Writes.{apply_words}
use Rattle.records.specs.ClassWords.{InClassWords}
use Rattle.records.specs.Inserts.{insert_choice_of}
use Rattle.records.specs.declared.Rule.{Rule}
use Rattle.insert_plans.specs.Inserts.{insert_words}

-- What demand 3 promises of an insert: told is the answer, plan the buffer before the call and after the buffer after it.
-- The plan's words are in the comparison class, which asks of each write that it fits and of the table that it is in order after it.
pub record ShortestPlan (w : ℕ) (u : Bool) (t : List ℕ) (rule : Rule) (told : Told) (plan after : List ℕ) : Type 0 where
  -- the call plans, and its count is the number of words that it wrote
  pub answer : told ≡ success (length (insert_words w u t rule) ∷ [])
  pub buffer : after ≡ insert_words w u t rule ++ drop (length (insert_words w u t rule)) plan
  pub class : InClassWords w u t rule (insert_words w u t rule)
  -- before the last write the table holds the old rules, in order, at most one of them twice
  pub between : (k : ℕ) → k < length (insert_words w u t rule)
      → Between (vacant w) (entry_occupied w) (entry_same w) (entry_misordered w u) (entries w t) (entries w (apply_words w t rule (take k (insert_words w u t rule))))
  -- after it each old rule stands once and the new one once
  pub placed : Placed (vacant w) (entry_occupied w) (entry_same w) (entry_misordered w u) (entries w t) (record_of w rule) (insert_choice_of w u t rule).slot
      (entries w (apply_words w t rule (insert_words w u t rule)))
  -- every sequence of plan words in the class, from the same table and with the same rule, is at least as long
  pub least : (words : List ℕ) → InClassWords w u t rule words → length (insert_words w u t rule) ≤ length words

-- What demand 3 promises of an insert that can be planned (Insertable), whatever the buffer.
pub record Demand3 (w : ℕ) (u : Bool) (t : List ℕ) (rule : Rule) (told : Told) (plan after : List ℕ) : Type 0 where
  -- the words needed are the cost plus 1, never more than slots, so that a buffer of as many words always does
  pub needed : length (insert_words w u t rule) ≡ suc (insert_choice_of w u t rule).cost
  pub few : length (insert_words w u t rule) ≤ slots w t
  -- with buffer enough the call plans, and no sequence of the class is shorter
  pub shortest : length (insert_words w u t rule) ≤ length plan → ShortestPlan w u t rule told plan after
