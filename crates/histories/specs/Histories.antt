-- Document 01, demand 2: the tables that are reached from an empty one by accepted inserts and deletes, carried out in full.
use Rattle.std.specs.Prelude.{◌≡◌, Bool, true, false, List, [], ◌∷◌, ℕ, ◌*◌, ◌≤◌, ◌<◌, length, replicate}
use Rattle.records.specs.Record.{record_words}
use Rattle.records.specs.Checks.{success}
use Rattle.records.specs.Editions.{Given, ranked}
use Rattle.delete_plans.specs.Deletes.{delete_answer, delete_plan}
use Rattle.insert_plans.specs.Inserts.{insert_answer, insert_plan}
use Rattle.carrying.specs.Calls.{after_calls, call_answer, Lent}
use Rattle.histories.specs.RuleSet.{Change, delete}
use Rattle.histories.specs.Inserted.{insert_changes}

-- a table of so many empty slots: all its words are zero
abbrev pub empty_table : ℕ → ℕ → List ℕ
empty_table w n = replicate (n * record_words w) 0

-- The tables that are reached by a history of changes, the latest first: an empty table by none; by an insert or a delete more, if the
-- planning call accepts it and the step is called, with that plan and that count, until it answers "finished". Each insert names an edition of its
-- own, the same for its plan and the carrying out, and counts with the rank that it gives; the rule that it replaces counts as deleted. A delete is carried
-- out with any rule and edition. Of the plan buffer the caller lends what it will, from the words counted on.
-- Document 02, 2026-11: u tells whether some call has named the table as uncounted; once named so it is named so in every later call.
pub data Reached (w : ℕ) : Bool → List Change → List ℕ → Type 0 where
  start : (n : ℕ) → 1 ≤ n → n ≤ 1024 → Reached w false [] (empty_table w n)
  uncounted : (history : List Change) (t : List ℕ) → Reached w false history t → Reached w true history t
  inserted : (u : Bool) (history : List Change) (t : List ℕ) → Reached w u history t
      → (given : Given) → given.rule.action < 4294967296 → (plan : List ℕ) (count : ℕ) → insert_answer w u t given (length plan) ≡ success (count ∷ [])
      → (lent : List ℕ) → Lent (insert_plan w u t given plan) count lent → (calls : ℕ) → call_answer w t lent given count calls ≡ success []
      → Reached w u (insert_changes w u t (ranked w given) history) (after_calls w t lent given count calls).table
  deleted : (u : Bool) (history : List Change) (t : List ℕ) → Reached w u history t
      → (id : ℕ) (plan : List ℕ) (count : ℕ) → delete_answer w u t id (length plan) ≡ success (count ∷ [])
      → (given : Given) (lent : List ℕ) → Lent (delete_plan w u t id plan) count lent → (calls : ℕ) → call_answer w t lent given count calls ≡ success []
      → Reached w u (delete id ∷ history) (after_calls w t lent given count calls).table
