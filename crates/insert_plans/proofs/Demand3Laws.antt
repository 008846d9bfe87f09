-- End theorems: demand 3, for every sound table with an empty slot and every sound rule of new id that ties with none and is not crossed.
use Rattle.std.specs.Prelude.{◌≡◌, refl, Bool, List, [], ◌∷◌, ◌++◌, ℕ, suc, ◌≤◌, ◌<◌, length, drop}
use Rattle.std.proofs.Common.{sym, ap, ◌∙◌, subst, subst₂, arith}
use Rattle.layout.specs.Insert.{LeastPlan}
use Rattle.plan_words.specs.PlanWords.{emptying}
use Rattle.records.specs.Record.{record_of}
use Rattle.records.specs.Order.{slots}
use Rattle.records.specs.Checks.{Told, success}
use Rattle.records.specs.Entries.{vacant, entries, entry_occupied, entry_same, entry_misordered}
use Rattle.records.specs.Inserts.{insert_choice_of}
use Rattle.records.specs.Editions.{Given, under13, ranked}
use Rattle.records.proofs.EditionsLaws.{ranked_13, ranked_action}
use Rattle.records.specs.declared.Rule.{Rule}
use Rattle.records.specs.Verdict.{Pass}
use Rattle.records.proofs.EntriesLaws.{entries_length}
use Rattle.records.proofs.InsertsLaws.{ValidPlan, plan_words_count, plan_words_class, plan_words_between, plan_words_placed, plan_words_least}
use Rattle.buffers.proofs.BuffersLaws.{buffer_written}
use Rattle.table_checks.specs.SlotsLaws.{table_few}
use Rattle.neighbours.specs.Neighbours.{insert_checks}
use Rattle.insert_plans.specs.Insertable.{InsertableGiven}
use Rattle.insert_plans.specs.Inserts.{insert_words, planned_words, insert_answer, insert_plan}
use Rattle.insert_plans.proofs.InsertableLaws.{insertable_passes, insertable_fresh}
use Rattle.insert_plans.proofs.InsertsLaws.{insert_least, planned_fresh}
use Rattle.insert_plans.specs.Demand3.{ShortestPlan, Demand3}

-- for every sound table with an empty slot, and every sound rule of new id that ties with none and is not crossed, given with an edition that there is
pub demand_3 : (w : ℕ) (u : Bool) (t : List ℕ) (given : Given) → given.rule.action < 4294967296 → InsertableGiven w u t given → (plan : List ℕ)
    → Demand3 w u t (ranked w given) (insert_answer w u t given (length plan)) plan (insert_plan w u t given plan)
demand_3 w u t given small premises plan = record { needed = count; few = omega (arith, count, best.short, valid.count, entries_length w t); shortest = planned }
  where
    rule : Rule
    rule = ranked w given

    e : insert_checks w u t given ≡ Pass
    e = insertable_passes w u t given premises

    -- it replaces no rule
    fresh : planned_words w u t rule ≡ insert_words w u t rule
    fresh = planned_fresh w u t rule (insertable_fresh w u t rule premises.insertable)

    best : LeastPlan (vacant w) (entry_occupied w) (entry_same w) (entry_misordered w u) (entries w t) (record_of w rule) (insert_choice_of w u t rule)
    best = insert_least w u t rule premises.insertable (omega (arith, small, ranked_action w given))

    valid : ValidPlan w u t rule (insert_choice_of w u t rule)
    valid = best.valid

    low : slots w t ≤ emptying
    low = omega (arith, table_few w u t premises.insertable.table)

    count : length (insert_words w u t rule) ≡ suc (insert_choice_of w u t rule).cost
    count = plan_words_count w u t rule low (insert_choice_of w u t rule) valid

    planned : length (insert_words w u t rule) ≤ length plan → ShortestPlan w u t rule (insert_answer w u t given (length plan)) plan (insert_plan w u t given plan)
    planned h =
        let r = buffer_written (planned_words w u t rule) plan refl e (omega (arith, h, ap length fresh)) in
        record {
          answer = sym r.0 ∙ ap (λ (l : List ℕ). success (length l ∷ [])) fresh;
          buffer = sym r.1 ∙ ap (λ (l : List ℕ). l ++ drop (length l) plan) fresh;
          class = plan_words_class w u t rule low (insert_choice_of w u t rule) valid;
          between = plan_words_between w u t rule low (insert_choice_of w u t rule) valid;
          placed = plan_words_placed w u t rule low (insert_choice_of w u t rule) valid;
          least = plan_words_least w u t rule (insert_choice_of w u t rule) best;
        }

-- the same of a call whose answer and buffer are those of the definitions
pub demand_3_call : (w : ℕ) (u : Bool) (t : List ℕ) (given : Given) (plan after : List ℕ) (told : Told) → given.rule.action < 4294967296
    → told ≡ insert_answer w u t given (length plan) → after ≡ insert_plan w u t given plan → InsertableGiven w u t given → Demand3 w u t (ranked w given) told plan after
demand_3_call w u t given plan after told small e f premises =
    subst₂ (λ (x : Told) (y : List ℕ). Demand3 w u t (ranked w given) x plan y) (sym e) (sym f) (demand_3 w u t given small premises plan)

-- and of document 01's rule, under 1.3
pub demand_3_rule : (w : ℕ) (u : Bool) (t : List ℕ) (rule : Rule) (plan after : List ℕ) (told : Told) → rule.action < 4294967296
    → told ≡ insert_answer w u t (under13 rule) (length plan) → after ≡ insert_plan w u t (under13 rule) plan → InsertableGiven w u t (under13 rule)
    → Demand3 w u t rule told plan after
demand_3_rule w u t rule plan after told small e f premises =
    subst (λ (r : Rule). Demand3 w u t r told plan after) (ranked_13 w rule) (demand_3_call w u t (under13 rule) plan after told small e f premises)

-- with a buffer of just the words needed
pub shortest_words : (w : ℕ) (u : Bool) (t : List ℕ) (given : Given) → given.rule.action < 4294967296 → InsertableGiven w u t given
    → ShortestPlan w u t (ranked w given) (insert_answer w u t given (length (insert_words w u t (ranked w given)))) (insert_words w u t (ranked w given))
    (insert_plan w u t given (insert_words w u t (ranked w given)))
shortest_words w u t given small premises = (demand_3 w u t given small premises (insert_words w u t (ranked w given))).shortest (omega arith)
