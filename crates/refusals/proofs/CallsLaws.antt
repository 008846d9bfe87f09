-- End theorems on refusals: each call declines exactly by its list of rows, and succeeds exactly when no condition of the list holds.
use Rattle.std.proofs.Common.{subst}
use Rattle.std.specs.Prelude.{Bool, true, false, cond, List, [], ◌∷◌, ◌++◌, ℕ, ◌+◌, eqb, ltb, length}
use Rattle.ternary.specs.Pattern.{Words}
use Rattle.records.specs.Record.{word}
use Rattle.records.specs.Order.{slots}
use Rattle.records.specs.Checks.{success, unless, slot_checks, first_match}
use Rattle.records.specs.Editions.{Given, lent_rule, ranked}
use Rattle.records.specs.Verdict.{Check}
use Rattle.buffers.specs.Buffers.{check_room, buffer_answer}
use Rattle.lookups.specs.Lookup.{match_told, lookup_answer, lookup_call}
use Rattle.insert_plans.specs.Inserts.{insert_answer, planned_words, insert_call, insert_call_reply}
use Rattle.insert_plans.specs.ListedInserts.{listed_insert_reply}
use Rattle.delete_plans.specs.Deletes.{delete_answer, delete_call}
use Rattle.carrying.specs.Carrying.{step_answer, step_call}
use Rattle.listed_steps.specs.ListedSteps.{listed_step}
use Rattle.image.specs.Format.{image_bytes, rule_count}
use Rattle.image.specs.Answers.{save_answer, load_answer, save_call, load_call}
use Rattle.refusals.specs.Rows.{Row, AnsweredBy}
use Rattle.refusals.proofs.RowsLaws.{Agrees, rows_then, answered, values_answered}
use Rattle.refusals.specs.Calls.{short_row, lookup_rows, insert_rows, delete_rows, save_rows, step_rows, load_rows}
use Rattle.refusals.specs.Calls.{lookup_call_rows, insert_call_rows, delete_call_rows, save_call_rows, step_call_rows, load_call_rows}
use Rattle.refusals.specs.Calls.{listed_insert_call_rows, listed_step_call_rows}
use Rattle.refusals.proofs.TableLaws.{slot_rows_lem, table_rows_lem}
use Rattle.refusals.proofs.WidthsLaws.{lent_answered, width_row, key_row, rule_row_lem, list_row}
use Rattle.refusals.proofs.PlanningLaws.{short_row_lem, insert_rows_lem, delete_rows_lem}
use Rattle.refusals.proofs.CarryingLaws.{step_checks, step_told_lem, step_rows_lem}
use Rattle.refusals.proofs.ImageLaws.{load_rows_lem}

pub lookup_by_rows : (w : ℕ) (t : List ℕ) (key : Words) → AnsweredBy (lookup_rows w t) (lookup_answer w t key)
unfolding lookup_answer match_told
lookup_by_rows w t key = pick (ltb (first_match w t key) (slots w t)) _
  where
    pick : (found : Bool) (values : List ℕ) → AnsweredBy (lookup_rows w t) (unless (slot_checks w t) (cond found (success values) (success [])))
    pick true values = answered (slot_checks w t) (lookup_rows w t) values (slot_rows_lem w t)
    pick false values = answered (slot_checks w t) (lookup_rows w t) [] (slot_rows_lem w t)

-- a call that writes into a lent buffer: its checks, then 11
buffer_answered : (checks : Check) (rows : List Row) (needed room : ℕ) → Agrees checks rows
    → AnsweredBy (rows ++ (short_row needed room ∷ [])) (buffer_answer checks needed room)
unfolding buffer_answer
buffer_answered checks rows needed room agree =
    answered _ _ (needed ∷ []) (rows_then checks (check_room needed room) rows (short_row needed room ∷ []) agree (λ e. short_row_lem needed room))

pub insert_by_rows : (w : ℕ) (u : Bool) (t : List ℕ) (given : Given) (room : ℕ) → AnsweredBy (insert_rows w u t given room) (insert_answer w u t given room)
insert_by_rows w u t given room = buffer_answered _ _ (length (planned_words w u t (ranked w given))) room (insert_rows_lem w u t given)

pub delete_by_rows : (w : ℕ) (u : Bool) (t : List ℕ) (id room : ℕ) → AnsweredBy (delete_rows w u t id room) (delete_answer w u t id room)
delete_by_rows w u t id room = buffer_answered _ _ 1 room (delete_rows_lem w u t id)

pub save_by_rows : (w : ℕ) (u : Bool) (t : List ℕ) (room : ℕ) → AnsweredBy (save_rows w u t room) (save_answer w u t room)
save_by_rows w u t room = buffer_answered _ _ (image_bytes w (rule_count w t)) room (table_rows_lem w u t)

pub load_by_rows : (w : ℕ) (u : Bool) (b t : List ℕ) → AnsweredBy (load_rows w u b t) (load_answer w u b t)
unfolding load_answer
load_by_rows w u b t = answered _ _ [] (load_rows_lem w u b t)

pub step_by_rows : (w : ℕ) (t plan : List ℕ) (given : Given) (done total : ℕ)
    → AnsweredBy (step_rows w t plan given done total) (step_answer w t plan given done total)
step_by_rows w t plan given done total =
    subst (AnsweredBy (step_rows w t plan given done total)) (step_told_lem w t plan given done total) (pick (eqb done total))
  where
    pick : (finished : Bool) → AnsweredBy (step_rows w t plan given done total)
        (unless (step_checks w t plan given done total) (cond finished (success []) (success ((done + 1) ∷ []))))
    pick true = answered (step_checks w t plan given done total) _ [] (step_rows_lem w t plan given done total)
    pick false = answered (step_checks w t plan given done total) _ ((done + 1) ∷ []) (step_rows_lem w t plan given done total)

-- the exported calls: what is lent with them is checked first
pub lookup_call_rows_lem : (w : ℕ) (t key : List ℕ) → AnsweredBy (lookup_call_rows w t key) (lookup_call w t key)
unfolding lookup_call
lookup_call_rows_lem w t key = lent_answered _ _ _ _ _ (key_row w key) (lookup_by_rows w t (word key))

pub insert_call_rows_lem : (w : ℕ) (u : Bool) (e : ℕ) (t rule : List ℕ) (room : ℕ) → AnsweredBy (insert_call_rows w u e t rule room) (insert_call w u e t rule room)
insert_call_rows_lem w u e t rule room = lent_answered _ _ _ _ _ (rule_row_lem w rule) (insert_by_rows w u t (lent_rule w e rule) room)

pub delete_call_rows_lem : (w : ℕ) (u : Bool) (t : List ℕ) (id room : ℕ) → AnsweredBy (delete_call_rows w u t id room) (delete_call w u t id room)
delete_call_rows_lem w u t id room = lent_answered _ _ _ _ _ (width_row w) (delete_by_rows w u t id room)

pub save_call_rows_lem : (w : ℕ) (u : Bool) (t : List ℕ) (room : ℕ) → AnsweredBy (save_call_rows w u t room) (save_call w u t room)
save_call_rows_lem w u t room = lent_answered _ _ _ _ _ (width_row w) (save_by_rows w u t room)

pub load_call_rows_lem : (w : ℕ) (u : Bool) (b t : List ℕ) → AnsweredBy (load_call_rows w u b t) (load_call w u b t)
load_call_rows_lem w u b t = lent_answered _ _ _ _ _ (width_row w) (load_by_rows w u b t)

pub step_call_rows_lem : (w e : ℕ) (t plan rule : List ℕ) (done total : ℕ) → AnsweredBy (step_call_rows w e t plan rule done total) (step_call w e t plan rule done total)
step_call_rows_lem w e t plan rule done total = lent_answered _ _ _ _ _ (rule_row_lem w rule) (step_by_rows w t plan (lent_rule w e rule) done total)

-- with a neighbour list lent
pub listed_insert_call_rows_lem : (w : ℕ) (u : Bool) (e : ℕ) (t rule list : List ℕ) (room : ℕ)
    → AnsweredBy (listed_insert_call_rows w u e t rule (length list) room) (listed_insert_reply w u e t rule list room)
listed_insert_call_rows_lem w u e t rule list room =
    let reply = values_answered _ _ _ (insert_call_rows_lem w u e t rule room) in
    values_answered _ _ _ (lent_answered _ _ _ _ (insert_call_reply w u e t rule room) (list_row w t (length list)) reply)

pub listed_step_call_rows_lem : (w e : ℕ) (t plan rule : List ℕ) (numbers done total : ℕ)
    → AnsweredBy (listed_step_call_rows w e t plan rule numbers done total) (listed_step w e t plan rule numbers done total)
listed_step_call_rows_lem w e t plan rule numbers done total = lent_answered _ _ _ _ _ (list_row w t numbers) (step_call_rows_lem w e t plan rule done total)
