-- Exported calls one after the other: a plan carried out by tcam_carry_out, and the tables that a caller comes to from an empty one.
-- Of each call what it returned and left is taken from its contract, and nothing else.
use Rattle.std.specs.Prelude.{◌≡◌, Bool, true, false, List, [], ◌∷◌, ℕ, ◌≤◌, ◌*◌, length, take, replicate}
use Rattle.records.specs.Record.{record_words}
use Rattle.records.specs.Editions.{lent_rule, ranked}
use Rattle.histories.specs.RuleSet.{Change, delete}
use Rattle.histories.specs.Inserted.{insert_changes}
use Rattle.tcam.specs.declared.carry.Progress.{Progress}
use Rattle.tcam.specs.Carried.{CarryLeft}
use Rattle.tcam.specs.Cells.{InsertLeft, DeleteLeft}

-- what tcam_carry_out returns for a write that is made, and for "finished"
abbrev pub wrote_result : ℕ
wrote_result = 0

abbrev pub finished_result : ℕ
finished_result = 4294967295

-- A plan under way: calls of tcam_carry_out from the plan's start, with its own rule, on the table it was drawn for, each of which made a write. As
-- plan a call is lent the count's words of the buffer, the whole buffer, or any number of words between, one call more than another if it will.
-- w is the width that each call names; a rule is lent as its record, with its edition e, each time the same.
pub data Carrying (w e : ℕ) (t plan rule : List ℕ) (count : ℕ) : List ℕ → Progress → Type 0 where
  drawn : Carrying w e t plan rule count t (record { done = 0; total = count })
  wrote : (v : List ℕ) (progress : Progress) → Carrying w e t plan rule count v progress
      → (words : ℕ) → count ≤ words → words ≤ length plan → (after : List ℕ) (progress' : Progress)
      → CarryLeft w e v (take words plan) rule progress wrote_result after progress' → Carrying w e t plan rule count after progress'

-- carried out in full: all writes are done
abbrev pub CarriedOut : ℕ → ℕ → List ℕ → List ℕ → List ℕ → ℕ → List ℕ → Type 0
CarriedOut w e t plan rule count after = (progress : Progress) × Carrying w e t plan rule count after progress × (progress.done ≡ count)

-- The tables that a caller comes to, with the changes made, the latest first: from 1 to 1,024 empty slots, by inserts and deletes that the planning
-- calls accepted and that were carried out in full. Each insert names an edition of its own, and is carried out with the edition that it was planned with; a
-- delete with any record of as many words, and any edition. An insert counts with the rank that its edition gives it, and the rule that it replaces counts as
-- deleted.
-- Document 02, 2026-11: u tells whether some call has named the table as uncounted. From that call on every call that takes a flag names it so; the calls that
-- take none, as lookups and the carrying out, say nothing of it. Carrying out with a neighbour list takes one, which decides the list alone (`CarryListed.same`).
pub data CameTo (w : ℕ) : Bool → List Change → List ℕ → Type 0 where
  started : (n : ℕ) → 1 ≤ n → n ≤ 1024 → CameTo w false [] (replicate (n * record_words w) 0)
  uncounted : (history : List Change) (t : List ℕ) → CameTo w false history t → CameTo w true history t
  inserted : (u : Bool) (history : List Change) (t : List ℕ) → CameTo w u history t → (e : ℕ) (rule : List ℕ)
      → (plan after : List ℕ) (count count' spot spot' : ℕ) → InsertLeft w u e t rule 0 plan after count count' spot spot'
      → (v : List ℕ) → CarriedOut w e t after rule count' v → CameTo w u (insert_changes w u t (ranked w (lent_rule w e rule)) history) v
  deleted : (u : Bool) (history : List Change) (t : List ℕ) → CameTo w u history t → (id : ℕ)
      → (plan after : List ℕ) (count count' spot spot' : ℕ) → DeleteLeft w u t id 0 plan after count count' spot spot'
      → (e : ℕ) (rule : List ℕ) → length rule ≡ record_words w → (v : List ℕ) → CarriedOut w e t after rule count' v → CameTo w u (delete id ∷ history) v
