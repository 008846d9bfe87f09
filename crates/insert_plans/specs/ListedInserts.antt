-- Document 02, 2026-10: planning an insert with a neighbour list lent. But for 1 by the list's length the call answers and plans as the one without a list.
use Rattle.std.specs.Prelude.{Bool, cond, List, ℕ, eqb, length}
use Rattle.records.specs.Checks.{Told, unless}
use Rattle.records.specs.Widths.{check_words, leaves}
use Rattle.buffers.specs.Buffers.{with_refreshed}
use Rattle.neighbour_lists.specs.Lists.{list_numbers, list_of, stale_list}
use Rattle.insert_plans.specs.Inserts.{insert_call_reply, insert_call_plan}

-- 1 for a list of another length than the table's; else the answer without a list
abbrev pub listed_insert : ℕ → Bool → ℕ → List ℕ → List ℕ → ℕ → ℕ → Told
listed_insert w u e t rule numbers room = unless (check_words numbers (list_numbers w t)) (insert_call_reply w u e t rule room)

-- the answer: where a plan is given it tells whether the list was not the table's
abbrev pub listed_insert_reply : ℕ → Bool → ℕ → List ℕ → List ℕ → List ℕ → ℕ → Told
listed_insert_reply w u e t rule list room = with_refreshed (listed_insert w u e t rule (length list) room) (stale_list w u t list)

-- the plan buffer afterwards
abbrev pub listed_insert_plan : ℕ → Bool → ℕ → List ℕ → List ℕ → ℕ → List ℕ → List ℕ
listed_insert_plan w u e t rule numbers plan = leaves (check_words numbers (list_numbers w t)) (insert_call_plan w u e t rule plan) plan

-- the list afterwards: where a plan is given that of the table, else as it was
abbrev pub listed_insert_list : ℕ → Bool → ℕ → List ℕ → List ℕ → List ℕ → ℕ → List ℕ
listed_insert_list w u e t rule list room = cond (eqb (listed_insert w u e t rule (length list) room).number 0) (list_of w u t) list
