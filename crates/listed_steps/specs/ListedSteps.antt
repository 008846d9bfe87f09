-- Document 02, 2026-10: carrying out with a neighbour list lent. But for 1 by the list's length a step answers and writes as the one without a list.
use Rattle.std.specs.Prelude.{Bool, cond, ◌&&◌, List, [], ◌∷◌, ℕ, ◌+◌, length, Option, Some, None, Result}
use Rattle.records.specs.Checks.{Told, success, answer_told, unless, passes}
use Rattle.records.specs.Widths.{check_words, check_rule, leaves}
use Rattle.records.specs.Editions.{lent_rule}
use Rattle.buffers.specs.Buffers.{flag_number}
use Rattle.neighbour_lists.specs.Lists.{list_numbers, list_of, stale_list}
use Rattle.carrying.specs.Carrying.{step_writes, step_call, step_call_table, step_call_done}
use Rattle.records.specs.declared.Refusal.{Refusal}
use Rattle.listed_steps.specs.declared.ListedStepInfo.{ListedStepInfo}

-- document 01's number and values for each case of a step's answer; a write tells too whether the list was worked out afresh
abbrev pub listed_step_values : Option ListedStepInfo → List ℕ
listed_step_values (Some info) = info.done ∷ flag_number info.refreshed ∷ []
listed_step_values None = []

abbrev pub listed_step_told : Result (Option ListedStepInfo) Refusal → Told
listed_step_told answer = answer_told listed_step_values answer

-- 1 for a list of another length than the table's; else the answer without a list
abbrev pub listed_step : ℕ → ℕ → List ℕ → List ℕ → List ℕ → ℕ → ℕ → ℕ → Told
listed_step w e t plan rule numbers done total = unless (check_words numbers (list_numbers w t)) (step_call w e t plan rule done total)

-- the step writes: it is neither refused nor finished
abbrev pub listed_step_writes : ℕ → ℕ → List ℕ → List ℕ → List ℕ → ℕ → ℕ → ℕ → Bool
listed_step_writes w e t plan rule numbers done total =
    passes (check_words numbers (list_numbers w t)) && (passes (check_rule w (length rule)) && step_writes w t plan (lent_rule w e rule) done total)

-- the answer: a write tells the writes done after it, and whether the list was not the table's
abbrev pub listed_step_reply : ℕ → Bool → ℕ → List ℕ → List ℕ → List ℕ → List ℕ → ℕ → ℕ → Told
listed_step_reply w u e t plan rule list done total =
    cond (listed_step_writes w e t plan rule (length list) done total) (success ((done + 1) ∷ flag_number (stale_list w u t list) ∷ []))
    (listed_step w e t plan rule (length list) done total)

-- the table and the writes done afterwards
abbrev pub listed_step_table : ℕ → ℕ → List ℕ → List ℕ → List ℕ → ℕ → ℕ → ℕ → List ℕ
listed_step_table w e t plan rule numbers done total = leaves (check_words numbers (list_numbers w t)) (step_call_table w e t plan rule done total) t

abbrev pub listed_step_done : ℕ → ℕ → List ℕ → List ℕ → List ℕ → ℕ → ℕ → ℕ → ℕ
listed_step_done w e t plan rule numbers done total = leaves (check_words numbers (list_numbers w t)) (step_call_done w e t plan rule done total) done

-- the list afterwards: after a write that of the table after it, else as it was
abbrev pub listed_step_list : ℕ → Bool → ℕ → List ℕ → List ℕ → List ℕ → List ℕ → ℕ → ℕ → List ℕ
listed_step_list w u e t plan rule list done total =
    cond (listed_step_writes w e t plan rule (length list) done total) (list_of w u (listed_step_table w e t plan rule (length list) done total)) list

-- the cell for whether the list was worked out afresh: written where a write is made
abbrev pub listed_step_cell : ℕ → Bool → ℕ → List ℕ → List ℕ → List ℕ → List ℕ → ℕ → ℕ → ℕ → ℕ
listed_step_cell w u e t plan rule list done total before =
    cond (listed_step_writes w e t plan rule (length list) done total) (flag_number (stale_list w u t list)) before
