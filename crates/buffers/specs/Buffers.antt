-- What a call that writes into a lent buffer answers and leaves there, given its checks and the contents that it is to write: a plan's words or
-- an image's bytes. Inserts, deletes and saves differ in these two alone.
use Rattle.std.specs.Prelude.{Bool, cond, List, [], ◌∷◌, ◌++◌, ℕ, eqb, ltb, length, get_or, take, drop, Result}
use Rattle.records.specs.Checks.{Told, success, answer_told, unless, passes, or_else}
use Rattle.records.specs.declared.Cause.TheVariants.{Short}
use Rattle.records.specs.Verdict.{Check}
use Rattle.records.specs.Verdict.{Pass, Fail}
use Rattle.records.specs.declared.Refusal.{Refusal}
use Rattle.buffers.specs.declared.PlanInfo.{PlanInfo}
use Rattle.buffers.specs.declared.InsertInfo.{InsertInfo}
use Rattle.buffers.specs.declared.ListedInfo.{ListedInfo}

-- document 01's number and values for each case of a planning call's answer
abbrev pub plan_told : Result PlanInfo Refusal → Told
plan_told answer = answer_told (λ info. info.count ∷ []) answer

-- the same of an insert, whose success holds the slot of the rule that covers the new one too
abbrev pub insert_answer_told : Result InsertInfo Refusal → Told
insert_answer_told answer = answer_told (λ info. info.count ∷ info.covered ∷ []) answer

-- a flag as a number
abbrev pub flag_number : Bool → ℕ
flag_number flag = cond flag 1 0

-- the same with a neighbour list, whose success tells too whether the list was worked out afresh
abbrev pub listed_answer_told : Result ListedInfo Refusal → Told
listed_answer_told answer = answer_told (λ info. info.count ∷ info.covered ∷ flag_number info.refreshed ∷ []) answer

-- an insert's answer whose success holds whether a list was worked out afresh
abbrev pub with_refreshed : Told → Bool → Told
with_refreshed told refreshed = record {
  number = told.number;
  values = cond (eqb told.number 0) (get_or told.values 0 0 ∷ get_or told.values 1 0 ∷ flag_number refreshed ∷ []) told.values;
}

-- an answer whose success holds a number more, and one without it; a refusal is as it was
abbrev pub with_cover : Told → ℕ → Told
with_cover told covered = record { number = told.number; values = cond (eqb told.number 0) (get_or told.values 0 0 ∷ covered ∷ []) told.values }

abbrev pub without_cover : Told → Told
without_cover told = record { number = told.number; values = take 1 told.values }

-- 11: the plan or image buffer is too short, spot the words or bytes needed
unfoldable pub check_room : ℕ → ℕ → Check
check_room needed room = cond (ltb room needed) (Fail Short needed) Pass

-- the answer, with so many words or bytes needed and a buffer of so many
unfoldable pub buffer_answer : Check → ℕ → ℕ → Told
buffer_answer checks needed room = unless (or_else checks (check_room needed room)) (success (needed ∷ []))

-- the buffer afterwards: on success the contents and then what stood there, else as it was
unfoldable pub buffer_after : Check → List ℕ → List ℕ → List ℕ
buffer_after checks contents buffer =
    cond (passes (or_else checks (check_room (length contents) (length buffer)))) (contents ++ drop (length contents) buffer) buffer
