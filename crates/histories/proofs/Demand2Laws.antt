-- End theorems: demand 2 within a plan, for every accepted insert and delete.
-- A plan whose writes fit in their turn, keep the replies until the last and leave the changed rules keeps it.
use Rattle.std.specs.Prelude.{◌≡◌, Bool, false, ◌||◌, ◌↔◌, ◌⊎◌, ℕ, zero, suc, ◌≤◌, ◌<◌, eqb, ltb, get_or, take, drop}
use Rattle.std.proofs.Math.Path.{refl, ap}
use Rattle.std.proofs.Common.{sym, ◌∙◌, subst, subst₂, ⊎_elim, arith, take_all}
use Rattle.std.proofs.Math.Bool.{true, or-true}
use Rattle.std.proofs.Math.Logic.◌⊎◌.{inl, inr}
use mathlib.Core.List.{List, [], ◌∷◌, ◌++◌}
use Rattle.std.proofs.Math.Decide.{dec_lt}
use Rattle.std.proofs.Math.ListN.{length}
use borrow.Author.Tests.{eqb-true, lt-ltb}
use Rattle.search.specs.SearchLaws.{and_both, and_left, and_right}
use Rattle.ternary.specs.Pattern.{Words}
use Rattle.layout.specs.Held.{Held, emptied}
use Rattle.layout.specs.Valid.{Between}
use Rattle.layout.specs.Write.{Write, copy, put, clear}
use Rattle.layout.proofs.HeldLaws.{held_removed}
use Rattle.plan_words.specs.PlanWords.{write_word, write_of}
use Rattle.plan_words.specs.PlanWordsLaws.{write_of_word}
use Rattle.records.specs.Record.{word, slot_words, ident, occupied, record_of}
use Rattle.records.specs.Order.{slots, equal_rule}
use Rattle.records.specs.Checks.{success, check_twice, check_order, slot_checks}
use Rattle.records.proofs.Laws.{slot_checks_law, table_checks_law}
use Rattle.records.specs.Entries.{vacant, entries, entry_occupied, entry_same, entry_misordered}
use Rattle.records.specs.Writes.{fits_write, apply_words}
use Rattle.records.specs.Editions.{Given, ranked, check_given}
use Rattle.records.proofs.EditionsLaws.{given_law, ranked_action}
use Rattle.records.specs.declared.Rule.{Rule}
use Rattle.records.specs.Verdict.{Pass}
use Rattle.records.proofs.EqualLaws.{equal_law}
use Rattle.records.proofs.EntriesLaws.{entries_length, entry_laws, unique_entries, shaped_slots}
use Rattle.records.proofs.WritesLaws.{apply_entries}
use Rattle.records.proofs.ClassWordsLaws.{class_words_law}
use Rattle.buffers.proofs.BuffersLaws.{buffer_accepted}
use Rattle.lookups.specs.Lookup.{reply}
use Rattle.neighbours.specs.Neighbours.{insert_checks}
use Rattle.delete_plans.specs.Deletes.{has_id, slot_of_id, delete_checks, delete_words, delete_answer, delete_plan, DeletePlanned}
use Rattle.delete_plans.proofs.DeletesLaws.{delete_planned}
use Rattle.insert_plans.specs.Inserts.{insert_words, replacement_words, planned_words, insert_answer, insert_plan}
use Rattle.insert_plans.specs.Insertable.{InsertableGiven, ReplacingGiven}
use Rattle.insert_plans.specs.Demand3.{ShortestPlan}
use Rattle.insert_plans.proofs.InsertableLaws.{insertable_law, insertable_fresh}
use Rattle.insert_plans.proofs.InsertsLaws.{planned_fresh, planned_replaced}
use Rattle.insert_plans.proofs.Demand3Laws.{shortest_words}
use Rattle.carrying.specs.Carrying.{put_checks, over_equal, fits_carried}
use Rattle.carrying.specs.Calls.{State, after_calls, call_answer, Lent}
use Rattle.carrying.proofs.StepsLaws.{fits_carried_lem, progress_within, accepted_progress}
use Rattle.carrying.proofs.CallsLaws.{lent_part, calls_lent, answer_lent}
use Rattle.histories.specs.RuleSet.{Member, without, set_reply}
use Rattle.histories.specs.Holding.{observed, Replies, Holding}
use Rattle.histories.proofs.RepliesLaws.{insert_keeps_reply}
use Rattle.histories.proofs.SoundnessLaws.{insert_between_checks, insert_after_checks, delete_after_checks}
use Rattle.histories.proofs.SoundnessLaws.{replacement_word, replacement_held, replacement_checks}
use Rattle.histories.proofs.RuleSetLaws.{without_law}
use Rattle.histories.proofs.HoldingLaws.{looked_up, holding_lookup, held_others}
use Rattle.histories.specs.Inserted.{rules_inserted}
use Rattle.histories.proofs.InsertedLaws.{inserted_fresh, inserted_replaced}
use Rattle.histories.proofs.InTurnLaws.{InTurn, calls_state, calls_write, calls_rest, calls_finished}
use Rattle.histories.specs.Demand2.{Demand2}

-- a plan whose writes fit in their turn, keep the replies until the last and leave the changed rules
module _
    (w : ℕ) (u : Bool) (t : List ℕ) (given : Given) (words plan : List ℕ) (turn : InTurn w t given words plan)
    (stands : (k : ℕ) → k < length words → (x : List ℕ)
    → Held (vacant w) (entry_occupied w) (entries w (apply_words w t (ranked w given) (take k words))) x ↔ Held (vacant w) (entry_occupied w) (entries w t) x)
    (keeps : (k : ℕ) → k < length words → (key : Words)
    → observed u (reply w (apply_words w t (ranked w given) (take k words)) key) ≡ observed u (reply w t key))
    (change : List Rule → List Rule) (leaves : (rules : List Rule) → Holding w u rules t → Holding w u (change rules) (apply_words w t (ranked w given) words)) where
  stays : (k : ℕ) → length words ≤ k → after_calls w t plan given (length words) k ≡ after_calls w t plan given (length words) (length words)
  stays k h =
      let a = calls_rest w t given words plan turn k h in
      let b = calls_rest w t given words plan turn (length words) (omega arith) in
      let e = a.0 ∙ sym b.0 in
      let f = a.1 ∙ sym b.1 in
      λ i. record { table = e i; done = f i }

  left : (rules : List Rule) → Holding w u rules t → (k : ℕ) → length words ≤ k → Holding w u (change rules) (after_calls w t plan given (length words) k).table
  left rules h k l = subst (Holding w u (change rules)) (sym (calls_rest w t given words plan turn k l).0) (leaves rules h)

  pub demand_2 : Demand2 w u t plan given words (length words) change
  demand_2 = record {
    number = refl;
    made = λ k h. (calls_state w t given words plan turn k h).0;
    writes = calls_write w t given words plan turn;
    counted = λ k h. (calls_state w t given words plan turn k h).1;
    finished = λ k h. calls_finished w t given words plan turn k (omega (arith, h));
    rests = stays;
    stand = λ k h x. subst (λ (v : List ℕ). Held (vacant w) (entry_occupied w) (entries w v) x ↔ Held (vacant w) (entry_occupied w) (entries w t) x)
        (sym (calls_state w t given words plan turn k (omega arith)).0) (stands k h x);
    kept = λ k h key. subst (λ (v : List ℕ). Replies w u v key (reply w t key)) (sym (calls_state w t given words plan turn k (omega arith)).0)
        (looked_up w u (apply_words w t (ranked w given) (take k words)) key (reply w t key) (turn.checks k (omega arith)) (keeps k (omega (arith, h)) key));
    holds = λ rules h. left rules h (length words) (omega arith);
    changed = λ rules h k l key. holding_lookup w u (change rules) (after_calls w t plan given (length words) k).table (left rules h k (omega (arith, l))) key;
  }

-- a rule that passes 5 and 18 may be put in by any write
put_passes : (w : ℕ) (given : Given) → check_given w given ≡ Pass → (x : Write) → put_checks w given x ≡ Pass
put_passes w given e (copy from to) = refl
put_passes w given e (put to) = e
put_passes w given e (clear to) = refl

-- the plan of an accepted insert
module _ (w : ℕ) (u : Bool) (t : List ℕ) (given : Given) (small : given.rule.action < 4294967296) (premises : InsertableGiven w u t given) where
  abbrev rule : Rule
  rule = ranked w given

  words : List ℕ
  words = insert_words w u t rule

  planned : ShortestPlan w u t rule (insert_answer w u t given (length words)) words (insert_plan w u t given words)
  unfolding words
  planned = shortest_words w u t given small premises

  checked : (k : ℕ) → k ≤ length words → slot_checks w (apply_words w t rule (take k words)) ≡ Pass
  unfolding words
  checked k h = pick (dec_lt k (length words))
    where
      pick : Dec (k < length words) → slot_checks w (apply_words w t rule (take k words)) ≡ Pass
      pick (yes l) = insert_between_checks w u t given small premises k l
      pick (no l) =
          ap (λ (ns : List ℕ). slot_checks w (apply_words w t rule ns)) (take_all k words (omega arith))
          ∙ ((table_checks_law w u (apply_words w t rule words)).0 (insert_after_checks w u t given small premises)).0

  insert_turn : (plan rest : List ℕ) → plan ≡ words ++ rest → InTurn w t given words plan
  unfolding words
  insert_turn plan rest e = record {
    rest = rest;
    front = e;
    fits = λ k h. fits_carried_lem w (apply_words w t rule (take k words)) rule (write_of (get_or words k 0))
        (⊎_elim (λ c. c.fits k h) (λ c. c.fits k h) ((class_words_law w u t rule words).0 planned.class));
    put = λ k h. put_passes w given ((given_law w given).1 (premises.sound, premises.edition)) (write_of (get_or words k 0));
    checks = checked;
  }

  insert_leaves : (rules : List Rule) → Holding w u rules t → Holding w u (rule ∷ rules) (apply_words w t rule words)
  unfolding words
  insert_leaves rules h = record {
    checks = insert_after_checks w u t given small premises;
    held = λ x. (λ m. forth x ((planned.placed.held x).0 m), λ m. (planned.placed.held x).1 (back x m));
    actions = few;
  }
    where
      forth : (x : List ℕ) → Held (vacant w) (entry_occupied w) (entries w t) x ⊎ (record_of w rule ≡ x)
          → (r : Rule) × Member r (rule ∷ rules) × (record_of w r ≡ x)
      forth x (inl m) = let o = (h.held x).0 m in (o.0, inr o.1, o.2)
      forth x (inr e) = (rule, inl refl, e)

      back : (x : List ℕ) → ((r : Rule) × Member r (rule ∷ rules) × (record_of w r ≡ x))
          → Held (vacant w) (entry_occupied w) (entries w t) x ⊎ (record_of w rule ≡ x)
      back x (r, inl f, e) = inr (ap (record_of w) (sym f) ∙ e)
      back x (r, inr m, e) = inl ((h.held x).1 (r, m, e))

      few : (r : Rule) → Member r (rule ∷ rules) → r.action < 4294967296
      few r (inl e) = let f : r.action ≡ rule.action = ap (λ (s : Rule). s.action) e in omega (arith, small, ranked_action w given)
      few r (inr m) = h.actions r m

  insert_carries : (plan rest : List ℕ) → plan ≡ words ++ rest → Demand2 w u t plan given words (length words) (λ rules. rule ∷ rules)
  unfolding words
  insert_carries plan rest e =
      demand_2 w u t given words plan (insert_turn plan rest e) (λ k h. (planned.between k h).held)
      (λ k h key. insert_keeps_reply w u t given small premises key k h)
      (λ rules. rule ∷ rules) insert_leaves

-- before the first write, of a plan of one word the last too, the table is as it was
same_held : (w : ℕ) (t : List ℕ) (rule : Rule) (words : List ℕ) (k : ℕ) → k < 1 → (x : List ℕ)
    → Held (vacant w) (entry_occupied w) (entries w (apply_words w t rule (take k words))) x ↔ Held (vacant w) (entry_occupied w) (entries w t) x
same_held w t rule words zero h x = (λ m. m, λ m. m)
same_held w t rule words (suc k) h x = absurd (omega arith)

same_reply : (w : ℕ) (u : Bool) (t : List ℕ) (rule : Rule) (words : List ℕ) (k : ℕ) → k < 1 → (key : Words)
    → observed u (reply w (apply_words w t rule (take k words)) key) ≡ observed u (reply w t key)
same_reply w u t rule words zero h key = refl
same_reply w u t rule words (suc k) h key = absurd (omega arith)

-- the one write of a replacement
module _ (w : ℕ) (u : Bool) (t : List ℕ) (given : Given) (small : given.rule.action < 4294967296) (s : ℕ) (premises : ReplacingGiven w u t given s) where
  abbrev sent : Rule
  sent = ranked w given

  action32 : sent.action < 4294967296
  action32 = omega (arith, small, ranked_action w given)

  puts : write_of (write_word (put s)) ≡ put s
  puts = replacement_word w u t sent action32 s premises.replacing

  old_checks : (slot_checks w t ≡ Pass) × (check_twice w t ≡ Pass) × (check_order w u t ≡ Pass)
  old_checks = (table_checks_law w u t).0 premises.replacing.table

  replacement_turn : (plan rest : List ℕ) → plan ≡ replacement_words s ++ rest → InTurn w t given (replacement_words s) plan
  unfolding over_equal
  replacement_turn plan rest e = record { rest = rest; front = e; fits = fits; put = looks; checks = checked }
    where
      over : over_equal w t sent s ≡ true
      over =
          let equal = (equal_law w (slot_words w t s) (word (record_of w sent))).1 premises.replacing.replaced.equal in
          and_both (ltb s (slots w t)) (equal_rule w (slot_words w t s) (word (record_of w sent))) (lt-ltb s (slots w t) premises.replacing.inside) equal

      fits : (k : ℕ) → k < 1 → fits_carried w (apply_words w t sent (take k (replacement_words s))) sent (write_of (get_or (replacement_words s) k 0)) ≡ true
      fits zero h = ap (fits_carried w t sent) puts ∙ (ap (λ (b : Bool). fits_write w t (put s) || b) over ∙ or-true (fits_write w t (put s)))
      fits (suc k) h = absurd (omega arith)

      looks : (k : ℕ) → k < 1 → put_checks w given (write_of (get_or (replacement_words s) k 0)) ≡ Pass
      looks zero h = put_passes w given ((given_law w given).1 (premises.sound, premises.edition)) (write_of (write_word (put s)))
      looks (suc k) h = absurd (omega arith)

      checked : (k : ℕ) → k ≤ 1 → slot_checks w (apply_words w t sent (take k (replacement_words s))) ≡ Pass
      checked zero h = old_checks.0
      checked (suc zero) h = ((table_checks_law w u _).0 (replacement_checks w u t sent action32 s premises.replacing)).0
      checked (suc (suc k)) h = absurd (omega arith)

  abbrev replaced_id_lem : ℕ
  replaced_id_lem = ident w (slot_words w t s)

  replacement_leaves : (rules : List Rule) → Holding w u rules t → Holding w u (sent ∷ without replaced_id_lem rules) (apply_words w t sent (replacement_words s))
  replacement_leaves rules h = record {
    checks = replacement_checks w u t sent action32 s premises.replacing;
    held = λ x. let held = replacement_held w u t sent action32 s premises.replacing x in (λ m. forth x (held.0 m), λ m. held.1 (back x m));
    actions = few;
  }
    where
      others : (x : List ℕ) → (Held (vacant w) (entry_occupied w) (entries w t) x × (entry_same w x (get_or (entries w t) s (vacant w)) ≡ false))
          ↔ ((r : Rule) × Member r (without replaced_id_lem rules) × (record_of w r ≡ x))
      others = held_others w u rules t h s replaced_id_lem premises.replacing.inside premises.replacing.replaced.equal.first refl

      forth : (x : List ℕ) → (Held (vacant w) (entry_occupied w) (entries w t) x × (entry_same w x (get_or (entries w t) s (vacant w)) ≡ false))
          ⊎ ((entry_occupied w (record_of w sent) ≡ true) × (record_of w sent ≡ x)) → (r : Rule) × Member r (sent ∷ without replaced_id_lem rules) × (record_of w r ≡ x)
      forth x (inl m) = let o = (others x).0 m in (o.0, inr o.1, o.2)
      forth x (inr m) = (sent, inl refl, m.1)

      back : (x : List ℕ) → ((r : Rule) × Member r (sent ∷ without replaced_id_lem rules) × (record_of w r ≡ x))
          → (Held (vacant w) (entry_occupied w) (entries w t) x × (entry_same w x (get_or (entries w t) s (vacant w)) ≡ false))
          ⊎ ((entry_occupied w (record_of w sent) ≡ true) × (record_of w sent ≡ x))
      back x (r, inl f, e) = inr (premises.replacing.replaced.equal.second, ap (record_of w) (sym f) ∙ e)
      back x (r, inr m, e) = inl ((others x).1 (r, m, e))

      few : (r : Rule) → Member r (sent ∷ without replaced_id_lem rules) → r.action < 4294967296
      few r (inl e) = let f : r.action ≡ sent.action = ap (λ (q : Rule). q.action) e in omega (arith, action32)
      few r (inr m) = h.actions r ((without_law replaced_id_lem rules r).0 m).0

  replacement_carries : (plan rest : List ℕ) → plan ≡ replacement_words s ++ rest
      → Demand2 w u t plan given (replacement_words s) 1 (λ rules. sent ∷ without replaced_id_lem rules)
  replacement_carries plan rest e =
      demand_2 w u t given (replacement_words s) plan (replacement_turn plan rest e) (same_held w t sent (replacement_words s)) (same_reply w u t sent (replacement_words s))
      (λ rules. sent ∷ without replaced_id_lem rules) replacement_leaves

-- demand 2 of an insert: the rule is added, with its rank, and the one that it replaces taken away
pub demand_2_insert : (w : ℕ) (u : Bool) (t : List ℕ) (given : Given) (plan : List ℕ) (count : ℕ) → given.rule.action < 4294967296
    → insert_answer w u t given (length plan) ≡ success (count ∷ [])
    → Demand2 w u t (insert_plan w u t given plan) given (planned_words w u t (ranked w given)) count (rules_inserted w u t (ranked w given))
unfolding words
demand_2_insert w u t given plan count small e =
    subst (λ (n : ℕ). Demand2 w u t (insert_plan w u t given plan) given (planned_words w u t rule) n (rules_inserted w u t rule)) (sym accepted.1)
    (⊎_elim fresh replaced ((insertable_law w u t given).0 accepted.0))
  where
    rule : Rule
    rule = ranked w given

    accepted : (insert_checks w u t given ≡ Pass) × (count ≡ length (planned_words w u t rule))
        × (insert_plan w u t given plan ≡ planned_words w u t rule ++ drop (length (planned_words w u t rule)) plan)
    accepted = buffer_accepted (insert_checks w u t given) (planned_words w u t rule) plan count e

    Promised : List ℕ → (List Rule → List Rule) → Type 0
    Promised l change = Demand2 w u t (insert_plan w u t given plan) given l (length l) change

    front : {l : List ℕ} → planned_words w u t rule ≡ l → insert_plan w u t given plan ≡ l ++ drop (length l) plan
    front is = accepted.2 ∙ ap (λ (l : List ℕ). l ++ drop (length l) plan) is

    fresh : InsertableGiven w u t given → Promised (planned_words w u t rule) (rules_inserted w u t rule)
    fresh p =
        let is = planned_fresh w u t rule (insertable_fresh w u t rule p.insertable) in
        subst₂ Promised (sym is) (inserted_fresh w u t rule p.insertable)
        (insert_carries w u t given small p (insert_plan w u t given plan) (drop (length (insert_words w u t rule)) plan) (front is))

    replaced : ((s : ℕ) × ReplacingGiven w u t given s) → Promised (planned_words w u t rule) (rules_inserted w u t rule)
    replaced (s, p) =
        let is = planned_replaced w u t rule s p.replacing in
        subst₂ Promised (sym is) (inserted_replaced w u t rule s p.replacing)
        (replacement_carries w u t given small s p (insert_plan w u t given plan) (drop 1 plan) (front is))

-- the one write of an accepted delete
module _ (w : ℕ) (u : Bool) (t : List ℕ) (id : ℕ) (checks : delete_checks w u t id ≡ Pass) (given : Given) where
  deletion : DeletePlanned w u t id
  deletion = delete_planned w u t id checks

  before : (slot_checks w t ≡ Pass) × (check_twice w t ≡ Pass) × (check_order w u t ≡ Pass)
  before = (table_checks_law w u t).0 deletion.table

  clears : write_of (write_word (clear (slot_of_id w t id))) ≡ clear (slot_of_id w t id)
  clears = write_of_word (clear (slot_of_id w t id)) (omega (arith, deletion.exists, (shaped_slots w t ((slot_checks_law w t).0 before.0).0).1))

  delete_turn : (plan rest : List ℕ) → plan ≡ delete_words w t id ++ rest → InTurn w t given (delete_words w t id) plan
  delete_turn plan rest e = record { rest = rest; front = e; fits = fits; put = looks; checks = checked }
    where
      fits : (k : ℕ) → k < 1
          → fits_carried w (apply_words w t (ranked w given) (take k (delete_words w t id))) (ranked w given) (write_of (get_or (delete_words w t id) k 0)) ≡ true
      fits zero h = fits_carried_lem w t (ranked w given) (write_of (write_word (clear (slot_of_id w t id)))) deletion.fits
      fits (suc k) h = absurd (omega arith)

      looks : (k : ℕ) → k < 1 → put_checks w given (write_of (get_or (delete_words w t id) k 0)) ≡ Pass
      looks zero h = ap (put_checks w given) clears
      looks (suc k) h = absurd (omega arith)

      checked : (k : ℕ) → k ≤ 1 → slot_checks w (apply_words w t (ranked w given) (take k (delete_words w t id))) ≡ Pass
      checked zero h = before.0
      checked (suc zero) h = ((table_checks_law w u (apply_words w t (ranked w given) (delete_words w t id))).0 (delete_after_checks w u t id checks (ranked w given))).0
      checked (suc (suc k)) h = absurd (omega arith)

  -- the record in the slot has the id
  has : (occupied w (slot_words w t (slot_of_id w t id)) ≡ true) × (ident w (slot_words w t (slot_of_id w t id)) ≡ id)
  unfolding has_id
  has =
      let x = slot_words w t (slot_of_id w t id) in
      (and_right (eqb (ident w x) id) (occupied w x) deletion.holds, eqb-true (ident w x) id (and_left (eqb (ident w x) id) (occupied w x) deletion.holds))

  abbrev entry : List ℕ
  entry = get_or (entries w t) (slot_of_id w t id) (vacant w)

  removed : (x : List ℕ) → Held (vacant w) (entry_occupied w) (entries w (apply_words w t (ranked w given) (delete_words w t id))) x
      ↔ (Held (vacant w) (entry_occupied w) (entries w t) x × (entry_same w x entry ≡ false))
  removed x =
      let low : slot_of_id w t id < length (entries w t) = omega (arith, deletion.exists, entries_length w t) in
      let after : entries w (apply_words w t (ranked w given) (delete_words w t id)) ≡ emptied (vacant w) (entries w t) (slot_of_id w t id) =
      ap (entries w) (deletion.after (ranked w given)) ∙ apply_entries w t (ranked w given) (clear (slot_of_id w t id)) deletion.exists in
      rw after
      (held_removed (entry_laws w u) (entries w t) (slot_of_id w t id) low
      (λ k l d. (unique_entries w t).1 before.1 k (slot_of_id w t id) l low d) x)

  delete_leaves : (rules : List Rule) → Holding w u rules t → Holding w u (without id rules) (apply_words w t (ranked w given) (delete_words w t id))
  delete_leaves rules h =
      let others = held_others w u rules t h (slot_of_id w t id) id deletion.exists has.0 has.1 in
      record {
        checks = delete_after_checks w u t id checks (ranked w given);
        held = λ x. (λ m. (others x).0 ((removed x).0 m), λ m. (removed x).1 ((others x).1 m));
        actions = λ r m. h.actions r ((without_law id rules r).0 m).0;
      }

  delete_carries : (plan rest : List ℕ) → plan ≡ delete_words w t id ++ rest → Demand2 w u t plan given (delete_words w t id) 1 (without id)
  delete_carries plan rest e =
      demand_2 w u t given (delete_words w t id) plan (delete_turn plan rest e) (same_held w t (ranked w given) (delete_words w t id))
      (same_reply w u t (ranked w given) (delete_words w t id)) (without id) delete_leaves

-- demand 2 of a delete, whatever the rule and the edition handed in with the step: the rules of the id are taken away
pub demand_2_delete : (w : ℕ) (u : Bool) (t : List ℕ) (id : ℕ) (plan : List ℕ) (count : ℕ) (given : Given)
    → delete_answer w u t id (length plan) ≡ success (count ∷ []) → Demand2 w u t (delete_plan w u t id plan) given (delete_words w t id) count (without id)
demand_2_delete w u t id plan count given e =
    let a = buffer_accepted (delete_checks w u t id) (delete_words w t id) plan count e in
    subst (λ (n : ℕ). Demand2 w u t (delete_plan w u t id plan) given (delete_words w t id) n (without id)) (sym a.1)
    (delete_carries w u t id a.0 given (delete_plan w u t id plan) (drop 1 plan) a.2)

-- Demand 2 with whatever the caller lends of the plan buffer: the states and answers of all calls are the same. So what is said above of the whole
-- buffer is said of the count's words, as in the call with `plan, count`, and of any number of words between.
module _ {u : Bool} {w : ℕ} {t plan : List ℕ} {given : Given} {words : List ℕ} {count : ℕ} {change : List Rule → List Rule}
    (d : Demand2 w u t plan given words count change) where
  pub demand_2_lent : (lent : List ℕ) → Lent plan count lent → Demand2 w u t lent given words count change
  demand_2_lent lent is = record {
    number = d.number;
    made = λ k h. tables k ∙ d.made k h;
    writes = λ k h. answers k ∙ d.writes k h;
    counted = λ k h. ap (λ (s : State). s.done) (states k) ∙ d.counted k h;
    finished = λ k h. answers k ∙ d.finished k h;
    rests = λ k h. states k ∙ (d.rests k h ∙ sym (states count));
    stand = λ k h x. subst (λ (v : List ℕ). Held (vacant w) (entry_occupied w) (entries w v) x ↔ Held (vacant w) (entry_occupied w) (entries w t) x)
        (sym (tables k)) (d.stand k h x);
    kept = λ k h key. subst (λ (v : List ℕ). Replies w u v key (reply w t key)) (sym (tables k)) (d.kept k h key);
    holds = λ rules h. subst (Holding w u (change rules)) (sym (tables count)) (d.holds rules h);
    changed = λ rules h k l key. subst (λ (v : List ℕ). Replies w u v key (set_reply w (change rules) key)) (sym (tables k)) (d.changed rules h k l key);
  }
    where
      states : (k : ℕ) → after_calls w t lent given count k ≡ after_calls w t plan given count k
      states = calls_lent w plan lent given count is t

      tables : (k : ℕ) → (after_calls w t lent given count k).table ≡ (after_calls w t plan given count k).table
      tables k = ap (λ (s : State). s.table) (states k)

      answers : (k : ℕ) → call_answer w t lent given count k ≡ call_answer w t plan given count k
      answers = answer_lent w plan lent given count is t

  -- the buffer has the words counted, since the calls are accepted
  pub demand_2_room : count ≤ length plan
  demand_2_room =
      let s = after_calls w t plan given count count in
      (progress_within w s.table (length plan) s.done count
      (accepted_progress w s.table plan given s.done count [] (d.finished count (omega arith)))).1

  pub demand_2_part : (k : ℕ) → count ≤ k → Demand2 w u t (take k plan) given words count change
  demand_2_part k h = demand_2_lent (take k plan) (lent_part plan count k demand_2_room h)

-- carried out in full, a plan has made every write of it
pub carried_whole : {w : ℕ} {u : Bool} {t plan : List ℕ} {given : Given} {words : List ℕ} {count : ℕ} {change : List Rule → List Rule}
    → Demand2 w u t plan given words count change → (after_calls w t plan given count count).table ≡ apply_words w t (ranked w given) words
carried_whole {w} {t} {plan} {given} {words} {count} d =
    d.made count (omega arith) ∙ ap (apply_words w t (ranked w given)) (take_all count words (omega (arith, d.number)))

-- until the last write of an insert the table holds the old rules, in order, at most one of them twice; until that of a replacement it is as it was
pub insert_between : (w : ℕ) (u : Bool) (t : List ℕ) (given : Given) (plan : List ℕ) (count : ℕ) → given.rule.action < 4294967296
    → insert_answer w u t given (length plan) ≡ success (count ∷ []) → (k : ℕ) → k < count
    → Between (vacant w) (entry_occupied w) (entry_same w) (entry_misordered w u) (entries w t) (entries w (after_calls w t (insert_plan w u t given plan) given count k).table)
    ⊎ ((after_calls w t (insert_plan w u t given plan) given count k).table ≡ t)
insert_between w u t given plan count small e k h = ⊎_elim fresh replaced ((insertable_law w u t given).0 accepted.0)
  where
    rule : Rule
    rule = ranked w given

    accepted : (insert_checks w u t given ≡ Pass) × (count ≡ length (planned_words w u t rule))
        × (insert_plan w u t given plan ≡ planned_words w u t rule ++ drop (length (planned_words w u t rule)) plan)
    accepted = buffer_accepted (insert_checks w u t given) (planned_words w u t rule) plan count e

    after : List ℕ
    after = (after_calls w t (insert_plan w u t given plan) given count k).table

    made : after ≡ apply_words w t rule (take k (planned_words w u t rule))
    made = (demand_2_insert w u t given plan count small e).made k (omega arith)

    fresh : InsertableGiven w u t given
        → Between (vacant w) (entry_occupied w) (entry_same w) (entry_misordered w u) (entries w t) (entries w after) ⊎ (after ≡ t)
    fresh p =
        let is = planned_fresh w u t rule (insertable_fresh w u t rule p.insertable) in
        let there = made ∙ ap (λ (l : List ℕ). apply_words w t rule (take k l)) is in
        inl (subst (λ (v : List ℕ). Between (vacant w) (entry_occupied w) (entry_same w) (entry_misordered w u) (entries w t) (entries w v)) (sym there)
        ((shortest_words w u t given small p).between k (omega (arith, h, accepted.1, ap length is))))

    replaced : ((s : ℕ) × ReplacingGiven w u t given s)
        → Between (vacant w) (entry_occupied w) (entry_same w) (entry_misordered w u) (entries w t) (entries w after) ⊎ (after ≡ t)
    replaced (s, p) =
        let is = planned_replaced w u t rule s p.replacing in
        let none : k ≡ 0 = omega (arith, h, accepted.1, ap length is) in
        inr (made ∙ ap (λ (n : ℕ). apply_words w t rule (take n (planned_words w u t rule))) none)
