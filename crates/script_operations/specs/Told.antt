-- What a line is answered: the letter that is printed, and document 01's number and values for each case of the answer.
-- Of a change it is the plan's own count: nothing is said of the buffer in which it was planned.
use Rattle.std.specs.Prelude.{cond, false, List, [], ◌∷◌, ℕ, eqb, length}
use Rattle.records.specs.Checks.{Told, success, refusal}
use Rattle.records.specs.Editions.{under13}
use Rattle.records.specs.declared.Rule.{Rule}
use Rattle.records.specs.Verdict.{Check}
use Rattle.records.specs.Verdict.{Pass, Fail}
use Rattle.neighbours.specs.Neighbours.{insert_checks}
use Rattle.delete_plans.specs.Deletes.{delete_checks, delete_words}
use Rattle.insert_plans.specs.Inserts.{planned_words}
use Rattle.script_operations.specs.declared.LineAnswer.{LineAnswer}
use Rattle.script_operations.specs.declared.LineAnswer.TheVariants.{Made, Planned, Found, Miss, Refused}

-- an answer told: the letter that it is printed with, and document 01's number and values
pub record LineTold : Type 0 where
  pub letter : ℕ
  pub told : Told

abbrev pub lettered : ℕ → Told → LineTold
lettered letter told = record { letter = letter; told = told }

-- each case: `N slots`, `P count`, `A slot id action`, `M`, `R number spot`
abbrev pub line_told : LineAnswer → LineTold
line_told (Made new) = lettered 78 (success (new.slots ∷ []))
line_told (Planned info) = lettered 80 (success (info.count ∷ []))
line_told (Found hit) = lettered 65 (success (hit.slot ∷ hit.id ∷ hit.action ∷ []))
line_told Miss = lettered 77 (success [])
line_told (Refused cause spot) = lettered 82 (refusal cause spot)

-- what a change with its checks is answered: the number of its plan's words, or the refusal
abbrev pub change_told : Check → List ℕ → LineTold
change_told Pass words = lettered 80 (success (length words ∷ []))
change_told (Fail cause spot) words = lettered 82 (refusal cause spot)

unfoldable pub insert_told : List ℕ → Rule → LineTold
insert_told t rule = change_told (insert_checks 2 false t (under13 rule)) (planned_words 2 false t rule)

unfoldable pub delete_told : List ℕ → ℕ → LineTold
delete_told t id = change_told (delete_checks 2 false t id) (delete_words 2 t id)

-- a planning call's answer, and a lookup's
abbrev pub planned_told : Told → LineTold
planned_told told = cond (eqb told.number 0) (lettered 80 told) (lettered 82 told)

abbrev pub looked_told : Told → LineTold
looked_told told = cond (eqb told.number 0) (cond (eqb (length told.values) 0) (lettered 77 told) (lettered 65 told)) (lettered 82 told)
