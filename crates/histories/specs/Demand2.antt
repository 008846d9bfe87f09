-- Document 01, demand 2 within a plan: drawn for the table, carried out in order, from its start, with its own rule and edition, on that table.
-- Every key keeps its old reply until the last write, and from then on has the reply of the changed rules. Of an uncounted table the replies' actions are
-- meant: within a plan the id may become that of another rule of the same action.
use Rattle.std.specs.Prelude.{◌≡◌, Bool, ◌↔◌, List, [], ◌∷◌, ℕ, suc, ◌≤◌, ◌<◌, length, take}
use Rattle.ternary.specs.Pattern.{Words}
use Rattle.records.specs.Checks.{success}
use Rattle.layout.specs.Held.{Held}
use Rattle.records.specs.Entries.{vacant, entries, entry_occupied}
use Rattle.records.specs.Writes.{apply_words}
use Rattle.records.specs.Editions.{Given, ranked}
use Rattle.records.specs.declared.Rule.{Rule}
use Rattle.lookups.specs.Lookup.{reply}
use Rattle.carrying.specs.Calls.{after_calls, call_answer}
use Rattle.histories.specs.RuleSet.{set_reply}
use Rattle.histories.specs.Holding.{Replies, Holding}

-- What demand 2 promises of a plan for a change of the rules, with its words and its count, from the table that it was drawn for; the number of
-- a call counts from 0.
pub record Demand2 (w : ℕ) (u : Bool) (t plan : List ℕ) (given : Given) (words : List ℕ) (count : ℕ) (change : List Rule → List Rule) : Type 0 where
  -- the plan's words are as many as it counts, and after each number of calls as many of them are made
  pub number : count ≡ length words
  pub made : (k : ℕ) → k ≤ count → (after_calls w t plan given count k).table ≡ apply_words w t (ranked w given) (take k words)
  -- each call is accepted and makes one write, until all are made
  pub writes : (k : ℕ) → k < count → call_answer w t plan given count k ≡ success (suc k ∷ [])
  pub counted : (k : ℕ) → k ≤ count → (after_calls w t plan given count k).done ≡ k
  -- then every call answers "finished" and changes nothing
  pub finished : (k : ℕ) → count ≤ k → call_answer w t plan given count k ≡ success []
  pub rests : (k : ℕ) → count ≤ k → after_calls w t plan given count k ≡ after_calls w t plan given count count
  -- before the last write the table holds the old rules and no others, and every key has its old reply
  pub stand : (k : ℕ) → k < count → (x : List ℕ)
      → Held (vacant w) (entry_occupied w) (entries w (after_calls w t plan given count k).table) x ↔ Held (vacant w) (entry_occupied w) (entries w t) x
  pub kept : (k : ℕ) → k < count → (key : Words) → Replies w u (after_calls w t plan given count k).table key (reply w t key)
  -- after it the table is sound and holds the changed rules, each in one slot
  pub holds : (rules : List Rule) → Holding w u rules t → Holding w u (change rules) (after_calls w t plan given count count).table
  -- from it on every key has the reply of the changed rules
  pub changed : (rules : List Rule) → Holding w u rules t → (k : ℕ) → count ≤ k → (key : Words)
      → Replies w u (after_calls w t plan given count k).table key (set_reply w (change rules) key)
