-- End theorems: demand 2 from an empty table on: each reached table is sound and holds the rules of its history, and each key is answered by them.
use Rattle.std.specs.Prelude.{◌≡◌, Bool, true, false, not, List, [], ◌∷◌, ℕ, ◌+◌, ◌*◌, ◌≤◌, ◌<◌, length, get_or}
use Rattle.std.proofs.Common.{sym, ap, ◌∙◌, subst, arith, ext_get_or}
use Rattle.std.proofs.Math.Bool.{true≢false}
use Rattle.std.proofs.Math.Logic.◌⊎◌.{inl}
use Rattle.std.proofs.Math.Decide.{dec_le}
use Rattle.std.proofs.Math.ListN.{length-replicate}
use Rattle.ternary.specs.Pattern.{Words}
use Rattle.records.specs.Record.{record_words, slot_words, empty}
use Rattle.records.specs.Checks.{Told, success, check_shape, table_checks}
use Rattle.records.proofs.Laws.{checks_loosened, slot_checks_law, table_checks_law, shape_law, records_law, empty_law}
use Rattle.records.specs.Entries.{vacant, entries, entry_occupied}
use Rattle.records.specs.Editions.{Given, ranked}
use Rattle.records.specs.declared.Rule.{Rule}
use Rattle.records.specs.Verdict.{Pass}
use Rattle.records.proofs.EntriesLaws.{entries_length, occupied_at_lem, entry_laws, order_entries, unique_entries, refuted}
use Rattle.delete_plans.specs.Deletes.{delete_answer, delete_plan}
use Rattle.insert_plans.specs.Inserts.{insert_answer, insert_plan}
use Rattle.carrying.specs.Calls.{State, after_calls, call_answer}
use Rattle.carrying.proofs.CallsLaws.{lent_whole}
use Rattle.histories.specs.RuleSet.{Change, delete, rule_set, set_reply}
use Rattle.histories.specs.Inserted.{insert_changes}
use Rattle.histories.proofs.InsertedLaws.{changes_rules}
use Rattle.records.proofs.RulesLaws.{zero_word}
use Rattle.histories.specs.Holding.{Replies, Holding}
use Rattle.histories.specs.Demand2.{Demand2}
use Rattle.histories.proofs.HoldingLaws.{holding_reply, holding_lookup}
use Rattle.histories.proofs.Demand2Laws.{demand_2_insert, demand_2_delete, demand_2_lent, demand_2_room}
use Rattle.histories.specs.Histories.{empty_table, Reached}

-- an empty table holds no rules
module _ (w : ℕ) (u : Bool) (n : ℕ) (some : 1 ≤ n) (few : n ≤ 1024) where
  zeros : List ℕ
  zeros = empty_table w n

  slot_empty : (i : ℕ) → empty w (slot_words w zeros i) ≡ true
  unfolding zeros
  slot_empty i = (empty_law w (slot_words w zeros i)).1 (λ j h. zero_word (n * record_words w) (i * record_words w + j))

  abbrev entry : ℕ → List ℕ
  entry i = get_or (entries w zeros) i (vacant w)

  entry_empty : (i : ℕ) → i < length (entries w zeros) → entry_occupied w (entry i) ≡ false
  entry_empty i h = occupied_at_lem w zeros i (omega (arith, entries_length w zeros)) ∙ ap not (slot_empty i)

  pub empty_holding : Holding w u [] (empty_table w n)
  unfolding zeros
  empty_holding = record {
    checks = (table_checks_law w u zeros).1 (
      (slot_checks_law w zeros).1 (
        (shape_law w zeros).1 (n, some, few, length-replicate (n * record_words w) 0),
        (records_law w zeros).1 (λ i h. inl (slot_empty i)),
      ),
      (unique_entries w zeros).0 (λ i k a b d. refuted (λ e. true≢false (sym ((entry_laws w u).same_occupied (entry i) (entry k) e) ∙ entry_empty i a))),
      (order_entries w u zeros).0 (λ i k l h. (entry_laws w u).misordered_left (entry i) (entry k) (entry_empty i (omega arith))),
    );
    held = λ x. (λ m. absurd (true≢false (sym m.0 ∙ (ap (entry_occupied w) (sym m.1.2) ∙ entry_empty m.1.0 m.1.1))), λ m. absurd m.1);
    actions = λ r m. absurd m;
  }

-- every table of zeros that passes check 1 is where a history starts
pub reached_start : (w : ℕ) (t : List ℕ) → check_shape w t ≡ Pass → ((i : ℕ) → i < length t → get_or t i 0 ≡ 0) → Reached w false [] t
reached_start w t shape none =
    let s = (shape_law w t).0 shape in
    let n = s.0 in
    let long : length (empty_table w n) ≡ n * record_words w = length-replicate (n * record_words w) 0 in
    subst (Reached w false [])
    (ext_get_or 0 (empty_table w n) t (long ∙ sym s.3) (λ i h. zero_word (n * record_words w) i ∙ sym (none i (omega (arith, s.3, long)))))
    (Reached.start n s.1 s.2)

-- a plan that has answered "finished" is carried out in full
finished_late : {w : ℕ} {u : Bool} {t plan : List ℕ} {given : Given} {words : List ℕ} {count : ℕ} {change : List Rule → List Rule} → Demand2 w u t plan given words count change
    → (calls : ℕ) → call_answer w t plan given count calls ≡ success [] → count ≤ calls
finished_late {count = count} d calls e = pick (dec_le count calls)
  where
    pick : Dec (count ≤ calls) → count ≤ calls
    pick (yes h) = h
    pick (no h) =
        let n : ◌≡◌ {A = ℕ} 1 0 = ap (λ (told : Told). length told.values) (sym (d.writes calls (omega arith)) ∙ e) in absurd (omega arith)

carried : {w : ℕ} {u : Bool} {t plan : List ℕ} {given : Given} {words : List ℕ} {count : ℕ} {change : List Rule → List Rule} → Demand2 w u t plan given words count change
    → (rules : List Rule) → Holding w u rules t → (calls : ℕ) → call_answer w t plan given count calls ≡ success []
    → Holding w u (change rules) (after_calls w t plan given count calls).table
carried {w} {u} {change = change} d rules h calls e =
    subst (λ (s : State). Holding w u (change rules) s.table) (sym (d.rests calls (finished_late d calls e))) (d.holds rules h)

-- document 02, 2026-11: what is held by a counted table is held by it uncounted
holding_loosened : (w : ℕ) (u : Bool) (rules : List Rule) (t : List ℕ) → Holding w false rules t → Holding w u rules t
holding_loosened w u rules t h = record { checks = checks_loosened w u t h.checks; held = h.held; actions = h.actions }

-- every table reached is sound and holds exactly the rules inserted and not since deleted, each in one slot
pub reached_holding : {w : ℕ} {u : Bool} {history : List Change} {t : List ℕ} → Reached w u history t → Holding w u (rule_set history) t
reached_holding {w} (Reached.start n some few) = empty_holding w false n some few
reached_holding {w} (Reached.uncounted history t before) = holding_loosened w true (rule_set history) t (reached_holding before)
reached_holding {w} (Reached.inserted u history t before given small plan count accepted lent is calls finished) =
    subst (λ (rules : List Rule). Holding w u rules (after_calls w t lent given count calls).table) (sym (changes_rules w u t (ranked w given) history))
    (carried (demand_2_lent (demand_2_insert w u t given plan count small accepted) lent is) (rule_set history) (reached_holding before) calls finished)
reached_holding {w} (Reached.deleted u history t before id plan count accepted given lent is calls finished) =
    carried (demand_2_lent (demand_2_delete w u t id plan count given accepted) lent is) (rule_set history) (reached_holding before) calls finished

-- every table reached passes checks 1 to 4
pub reached_sound : {w : ℕ} {u : Bool} {history : List Change} {t : List ℕ} → Reached w u history t → table_checks w u t ≡ Pass
reached_sound reached = (reached_holding reached).checks

-- and every key is answered by the highest-ranked match among those rules, each with the rank it was put in with, or by a miss; from the first call on that
-- names the table as uncounted by its action
pub reached_lookup : {w : ℕ} {u : Bool} {history : List Change} {t : List ℕ} → Reached w u history t → (key : Words)
    → Replies w u t key (set_reply w (rule_set history) key)
reached_lookup {w} {u} {history} {t} reached = holding_lookup w u (rule_set history) t (reached_holding reached)

-- an accepted insert or delete is carried out in full by as many calls as its plan counts, so that a history can always go on
pub reached_insert : {w : ℕ} {u : Bool} {history : List Change} {t : List ℕ} → Reached w u history t → (given : Given) → given.rule.action < 4294967296
    → (plan : List ℕ) (count : ℕ) → insert_answer w u t given (length plan) ≡ success (count ∷ [])
    → Reached w u (insert_changes w u t (ranked w given) history) (after_calls w t (insert_plan w u t given plan) given count count).table
reached_insert {w} {u} {history} {t} reached given small plan count accepted =
    let d = demand_2_insert w u t given plan count small accepted in
    let buffer = insert_plan w u t given plan in
    Reached.inserted u history t reached given small plan count accepted buffer (lent_whole buffer count (demand_2_room d)) count (d.finished count (omega arith))

pub reached_delete : {w : ℕ} {u : Bool} {history : List Change} {t : List ℕ} → Reached w u history t → (id : ℕ) (plan : List ℕ) (count : ℕ)
    → delete_answer w u t id (length plan) ≡ success (count ∷ []) → (given : Given)
    → Reached w u (delete id ∷ history) (after_calls w t (delete_plan w u t id plan) given count count).table
reached_delete {w} {u} {history} {t} reached id plan count accepted given =
    let d = demand_2_delete w u t id plan count given accepted in
    let buffer = delete_plan w u t id plan in
    Reached.deleted u history t reached id plan count accepted given buffer (lent_whole buffer count (demand_2_room d)) count (d.finished count (omega arith))

-- demand 2 in one piece, within a plan of a history: the replies of its rules until the last write, and those of the changed rules from it on
pub reached_within : {w : ℕ} {u : Bool} {history : List Change} {t plan : List ℕ} {given : Given} {words : List ℕ} {count : ℕ} {change : List Rule → List Rule}
    → Reached w u history t → Demand2 w u t plan given words count change → (k : ℕ) (key : Words)
    → (k < count → Replies w u (after_calls w t plan given count k).table key (set_reply w (rule_set history) key))
    × (count ≤ k → Replies w u (after_calls w t plan given count k).table key (set_reply w (change (rule_set history)) key))
reached_within {w} {u} {history} {t} {plan} {given} {count = count} reached d k key = (
  λ h. let old = d.kept k h key in (old.0, old.1 ∙ holding_reply w u (rule_set history) t (reached_holding reached) key),
  λ h. d.changed (rule_set history) (reached_holding reached) k h key,
)
