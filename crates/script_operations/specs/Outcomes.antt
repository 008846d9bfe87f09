-- Document 01, "The script program": what an insert and a delete do to the table, and the bytes that they and a lookup print.
-- The table is the list of its words.
use Rattle.std.specs.Prelude.{◌≡◌, cond, false, List, [], ◌∷◌, ℕ, ◌≤◌, eqb, length, get_or, take}
use Rattle.records.specs.Checks.{Told, cause_number}
use Rattle.records.specs.Writes.{apply_words}
use Rattle.records.specs.Editions.{under13}
use Rattle.records.specs.declared.Rule.{Rule}
use Rattle.records.specs.Verdict.{Check}
use Rattle.records.specs.Verdict.{Pass, Fail}
use Rattle.neighbours.specs.Neighbours.{insert_checks}
use Rattle.delete_plans.specs.Deletes.{delete_checks, delete_words}
use Rattle.insert_plans.specs.Inserts.{planned_words}
use Rattle.carrying.specs.Calls.{after_calls}
use Rattle.script_lines.specs.Blocks.{Outcome}
use Rattle.script_printing.specs.PrintedLines.{printed}
use Rattle.script_printing.specs.Printing.{Shown}
use Rattle.script_answers.specs.Answers.{plan_bytes, miss_bytes, refusal_bytes}

-- a table afterwards, and the bytes printed
abbrev pub outcome_of : List ℕ → List ℕ → Outcome (List ℕ)
outcome_of table bytes = record { table = table; printed = bytes }

-- `R number spot`, and the table as it was
abbrev pub refused : List ℕ → ℕ → ℕ → Outcome (List ℕ)
refused t number spot = outcome_of t (refusal_bytes number spot)

-- a change with its checks: the plan's words, printed, and the table with all its writes made
abbrev pub change_outcome : List ℕ → Check → List ℕ → List ℕ → Outcome (List ℕ)
change_outcome t Pass words after = outcome_of after (plan_bytes words)
change_outcome t (Fail cause spot) words after = refused t (cause_number cause) spot

-- `I id priority pattern action` inserts and carries out, under 1.3: a rule's rank is its priority
unfoldable pub insert_outcome : List ℕ → Rule → Outcome (List ℕ)
insert_outcome t rule = change_outcome t (insert_checks 2 false t (under13 rule)) (planned_words 2 false t rule) (apply_words 2 t rule (planned_words 2 false t rule))

-- `D id`; its one write puts no rule in
abbrev pub no_rule : Rule
no_rule = record { id = 0; priority = 0; value = 0 ∷ 0 ∷ []; mask = 0 ∷ 0 ∷ []; action = 0 }

unfoldable pub delete_outcome : List ℕ → ℕ → Outcome (List ℕ)
delete_outcome t id = change_outcome t (delete_checks 2 false t id) (delete_words 2 t id) (apply_words 2 t no_rule (delete_words 2 t id))

-- `A slot id action`, or `M` for a miss, or `R number spot`
abbrev pub lookup_bytes : Told → List ℕ
lookup_bytes told =
    cond (eqb told.number 0) (cond (eqb (length told.values) 0) miss_bytes (printed 65 told.values))
    (refusal_bytes told.number (get_or told.values 0 0))

-- What a call that changes the table in place leaves.
pub record Changed (told : Outcome (List ℕ)) (count : ℕ) (table' out out' : List ℕ) : Type 0 where
  pub table : table' ≡ told.table
  pub shown : Shown out told.printed count out'

-- a planning call's answer, carried out in full and printed: by its number and values
unfoldable pub plan_outcome : Told → List ℕ → List ℕ → Rule → Outcome (List ℕ)
plan_outcome told t plan rule =
    let count = get_or told.values 0 0 in
    cond (eqb told.number 0) (outcome_of (after_calls 2 t plan (under13 rule) count count).table (plan_bytes (take count plan))) (refused t told.number count)

-- the words that a planning call counted are in the buffer
abbrev pub WithinRoom : Told → ℕ → Type 0
WithinRoom told room = told.number ≡ 0 → get_or told.values 0 0 ≤ room
