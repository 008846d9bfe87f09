-- End theorems on the planning of inserts: A, B and the choice of the table are those of its layout, and the words written are those of its plan.
use Rattle.std.proofs.Math.Path.{◌≡◌, refl, ap, ap₂, subst}
use Rattle.std.proofs.Common.{sym, ◌∙◌, true≢false, ⊎_elim}
use Rattle.std.specs.Prelude.{Bool, true, cond, ◌⊎◌, List, [], ◌∷◌, ◌++◌, length, drop}
use Rattle.std.proofs.Math.Bool.{false}
use Rattle.std.proofs.Math.Logic.◌⊎◌.{inl, inr}
use Prim.Native.Nat.{ℕ, suc, ◌+◌, ◌-◌, ◌≤◌, ◌<◌}
use native.Mathlib.Omega.{arith}
use Rattle.search.specs.Search.{least, after_last}
use Rattle.search.specs.SearchLaws.{decided}
use Rattle.ternary.specs.Pattern.{Words}
use Rattle.layout.specs.Plan.{Choice, Range, after_preceding, first_dependant, range_down, range_up, choose, insert_choice}
use Rattle.layout.specs.Insert.{LeastPlan}
use Rattle.records.specs.Record.{word, record_words, slot_words, record_of, listed}
use Rattle.records.specs.Order.{slots, precedes}
use Rattle.records.specs.Checks.{Told, success, refusal, unless, or_else, check_records, table_checks}
use Rattle.records.proofs.Laws.{cause_not_zero, failed, passed, or_else_pass, sound_law, table_checks_law}
use Rattle.records.specs.Entries.{vacant, entries, entry_occupied, entry_same, entry_misordered}
use Rattle.records.specs.Inserts.{insert_choice_of, plan_words}
use Rattle.records.specs.declared.Rule.{Rule}
use Rattle.records.specs.declared.Cause.TheVariants.{Short}
use Rattle.records.specs.Verdict.{Check}
use Rattle.records.specs.Verdict.{Pass, Fail}
use Rattle.records.specs.Widths.{check_rule, leaves}
use Rattle.records.proofs.RulesLaws.{rule_action}
use Rattle.records.specs.Editions.{Given, lent_rule, ranked, ranked_record, check_given}
use Rattle.records.proofs.EditionsLaws.{given_law, ranked_action, ranked_record_lem, ranked_passes}
use Rattle.records.proofs.EntriesLaws.{entries_length}
use Rattle.records.proofs.InsertsLaws.{new_misordered, misordered_new, uncrossed_apart, insert_words_lem, after_preceding_precedes, first_dependant_precedes}
use Rattle.records.proofs.InsertsLaws.{after_preceding_slots, first_dependant_slots}
use Rattle.buffers.specs.Buffers.{buffer_answer, buffer_after, with_cover, without_cover}
use Rattle.buffers.proofs.BuffersLaws.{buffer_refused, buffer_short, buffer_written, buffer_passed, cover_asked, cover_dropped}
use Rattle.costs.specs.Costs.{cost_of}
use Rattle.planner.specs.Choice.{choice_of, choice_words}
use Rattle.planner.specs.declared.PositionChoice.{PositionChoice}
use Rattle.planner.specs.Agree.{Agrees, Emits}
use Rattle.planner.proofs.ChoiceLaws.{choice_words_length}
use Rattle.planner.proofs.AgreeLaws.{plan_law, numbers_law}
use Rattle.neighbours.specs.Neighbours.{after_a, slot_b, check_crossed, replaces, new_checks, place_checks, rule_words, rule_checks, insert_checks}
use Rattle.neighbours.specs.Neighbours.{found_check, FoundIn, covering_slot}
use Rattle.neighbours.proofs.NeighboursLaws.{insert_passes}
use Rattle.std.specs.Prelude.{Option, Some, None, Result, Ok, Err}
use Rattle.records.specs.declared.Refusal.{Refusal}
use Rattle.windows.specs.Windows.{end_at}
use Rattle.insert_plans.specs.Insertable.{Insertable, Replacing}
use Rattle.insert_plans.specs.Joined.{Costed}
use Rattle.insert_plans.proofs.InsertableLaws.{insertable_law, replacing_slot, rule_words_lem, uncrossed_numbers}
use Rattle.insert_plans.proofs.JoinedLaws.{ends_listed, ends_down as ends-down-law, ends_up as ends-up-law}
use Rattle.insert_plans.specs.Inserts.{insert_words, replacement_words, planned_words, insert_answer, insert_plan, insert_call, insert_cover, insert_reply, insert_call_reply, choice_between, record_choice, record_plan, Joined}

module _ (w : ℕ) (u : Bool) (t : List ℕ) (rule : Rule) (p : Insertable w u t rule) where
  -- A + 1 and B of the table are those of its layout
  pub after_is : after_a w u t (rule_words w rule) ≡ after_preceding (vacant w) (entry_misordered w u) (entries w t) (record_of w rule)
  unfolding after_a
  after_is =
      ap (λ (x : Words). after_last (λ (i : ℕ). precedes w u (slot_words w t i) x) (slots w t)) (rule_words_lem w rule)
      ∙ after_preceding_precedes w u t rule p.untied p.new

  pub dependant_is : slot_b w u t (rule_words w rule) ≡ first_dependant (vacant w) (entry_misordered w u) (entries w t) (record_of w rule)
  unfolding slot_b
  dependant_is =
      ap (λ (x : Words). least (λ (i : ℕ). precedes w u x (slot_words w t i)) (slots w t) 0) (rule_words_lem w rule)
      ∙ first_dependant_precedes w u t rule p.untied p.new

  pub apart : after_last (new_misordered w u rule t) (slots w t) ≤ least (misordered_new w u rule t) (slots w t) 0
  apart =
      uncrossed_apart w u t rule p.untied p.new
      (let a = after_is in
      let b = dependant_is in
      omega (arith, uncrossed_numbers w u t rule p, after_preceding_slots w u t rule, first_dependant_slots w u t rule))

  -- the plan is valid, at most as long as the table has slots, and a shortest one of the comparison class
  pub insert_least : rule.action < 4294967296
      → LeastPlan (vacant w) (entry_occupied w) (entry_same w) (entry_misordered w u) (entries w t) (record_of w rule) (insert_choice_of w u t rule)
  insert_least small =
      let e = p.room in
      let checks = (table_checks_law w u t).0 p.table in
      insert_words_lem w u t rule checks.1 checks.2 p.new ((sound_law w _ _ _ _).0 p.sound).0 small e.0 e.1 e.2 apart

  -- the choice between A and B is the layout's
  pub between_is : record_choice w u t (rule_words w rule) ≡ insert_choice_of w u t rule
  unfolding insert_choice choice_between
  between_is =
      let x = after_is in
      let y = dependant_is in
      let a = after_a w u t (rule_words w rule) in
      let b = slot_b w u t (rule_words w rule) in
      let z : b + 1 ≡ suc (first_dependant (vacant w) (entry_misordered w u) (entries w t) (record_of w rule)) = omega arith in
      let below : ◌≡◌ {A = Range} (record { from = a; to = b + 1 }) (range_down (vacant w) (entry_misordered w u) (entries w t) (record_of w rule)) =
      λ k. record { from = x k; to = z k } in
      let above : ◌≡◌ {A = Range} (record { from = a - 1; to = b }) (range_up (vacant w) (entry_misordered w u) (entries w t) (record_of w rule)) =
      λ k. record { from = x k - 1; to = y k } in
      ap₂ (choose (vacant w) (entry_occupied w) (entry_misordered w u) (entries w t)) below above

-- what the planner writes of a choice: nothing where the buffer is too short, ..
pub write_short : (c : ℕ → ℕ) (n : ℕ) (choice : PositionChoice) (plan : List ℕ) → length plan < choice.cost + 1
    → (refusal Short (choice.cost + 1) ≡ buffer_answer Pass (length (choice_words c n choice)) (length plan))
    × (plan ≡ buffer_after Pass (choice_words c n choice) plan)
write_short c n choice plan h =
    let e = choice_words_length c n choice in
    let r = buffer_short (choice_words c n choice) plan refl refl (omega arith) in
    let k : choice.cost + 1 ≡ length (choice_words c n choice) = omega arith in
    (ap (refusal Short) k ∙ r.0, r.1)

-- .. else the plan's words
pub write_done : (c : ℕ → ℕ) (n : ℕ) (choice : PositionChoice) (plan after : List ℕ) → choice.cost + 1 ≤ length plan
    → after ≡ choice_words c n choice ++ drop (suc choice.cost) plan
    → (success ((choice.cost + 1) ∷ []) ≡ buffer_answer Pass (length (choice_words c n choice)) (length plan))
    × (after ≡ buffer_after Pass (choice_words c n choice) plan)
write_done c n choice plan after h f =
    let e = choice_words_length c n choice in
    let r = buffer_written (choice_words c n choice) plan refl refl (omega arith) in
    let k : choice.cost + 1 ≡ length (choice_words c n choice) = omega arith in
    (ap (λ (m : ℕ). success (m ∷ [])) k ∙ r.0, f ∙ (ap (λ (m : ℕ). choice_words c n choice ++ drop m plan) (sym e) ∙ r.1))

-- the costs of the direction taken
cond_costs : (b : Bool) (u d : List ℕ) → cond b (cost_of u) (cost_of d) ≡ cost_of (cond b u d)
cond_costs true u d = refl
cond_costs false u d = refl

-- where the choice between two numbers has a finite cost, costs of both directions are all that the planner needs to find it
pub choice_joined : (w : ℕ) (u : Bool) (t : List ℕ) (n after dependant : ℕ) → n ≡ slots w t → (choice_between w u t after dependant).cost < n → (down up : List ℕ)
    → Costed w u t false down → Costed w u t true up → (choice : PositionChoice)
    → choice ≡ choice_of (cost_of down) (cost_of up) n (record { from = after; to = dependant + 1 }) (record { from = after - 1; to = dependant })
    → Joined n (choice_between w u t after dependant) down up choice
unfolding choice_between
choice_joined w u t n after dependant same low down up g h choice f = record {
  finite = omega (arith, agrees.cost);
  stays = emits.stays;
  words = plan_law emits;
}
  where
    agrees : Agrees n (cost_of down) (cost_of up) choice (choice_between w u t after dependant)
    agrees =
        subst (λ (c : PositionChoice). Agrees n (cost_of down) (cost_of up) c (choice_between w u t after dependant)) (sym f)
        (subst (λ (k : ℕ). Agrees k (cost_of down) (cost_of up)
        (choice_of (cost_of down) (cost_of up) k (record { from = after; to = dependant + 1 }) (record { from = after - 1; to = dependant }))
        (choice_between w u t after dependant)) (sym same)
        (numbers_law (vacant w) (entry_occupied w) (entry_misordered w u) (entries w t) (slots w t) (entries_length w t) (listed (slots w t) (end_at w u t false))
        (listed (slots w t) (end_at w u t true)) (cost_of down) (cost_of up) (ends-down-law w u t (listed (slots w t) (end_at w u t false)) (ends_listed w u t false))
        (ends-up-law w u t (listed (slots w t) (end_at w u t true)) (ends_listed w u t true)) g h (record { from = after; to = dependant + 1 })
        (record { from = after - 1; to = dependant })))

    emits : Emits (cost_of (cond choice.up up down)) n choice (choice_between w u t after dependant)
    emits = subst (λ (c : ℕ → ℕ). Emits c n choice (choice_between w u t after dependant)) (cond_costs choice.up up down) (agrees.finite low)

-- where a check fails the contents do not matter
buffer_same : (check : Check) (x y buffer : List ℕ) → (check ≡ Pass → x ≡ y)
    → (buffer_answer check (length x) (length buffer) ≡ buffer_answer check (length y) (length buffer))
    × (buffer_after check x buffer ≡ buffer_after check y buffer)
unfolding buffer_answer buffer_after
buffer_same Pass x y buffer e =
    (ap (λ (l : List ℕ). buffer_answer Pass (length l) (length buffer)) (e refl), ap (λ (l : List ℕ). buffer_after Pass l buffer) (e refl))
buffer_same (Fail cause spot) x y buffer e = (refl, refl)

-- the words that an insert is planned with, by whether it replaces a rule
pub planned_fresh : (w : ℕ) (u : Bool) (t : List ℕ) (rule : Rule) → replaces w u t (rule_words w rule) ≡ false → planned_words w u t rule ≡ insert_words w u t rule
planned_fresh w u t rule e = rw e

pub planned_replaced : (w : ℕ) (u : Bool) (t : List ℕ) (rule : Rule) (s : ℕ) → Replacing w u t rule s → planned_words w u t rule ≡ replacement_words s
planned_replaced w u t rule s r = let found = replacing_slot w u t rule s r in rw (found.1, found.0)

-- a rule that is checked, as the code plans it: by what it was found to be
module _ (w : ℕ) (u : Bool) (t : List ℕ) (new : Words) (plan : List ℕ) {found : Result (Option ℕ) Refusal} where
  pub found_declined : {refused : Refusal} → found ≡ Err refused
      → (refusal refused.cause refused.spot ≡ buffer_answer (or_else (found_check found) (place_checks w u t new)) (length (record_plan w u t new)) (length plan))
      × (plan ≡ buffer_after (or_else (found_check found) (place_checks w u t new)) (record_plan w u t new) plan)
  found_declined e = rw e (buffer_refused (record_plan w u t new) plan refl refl)

  pub found_replaces : {slot : ℕ} → found ≡ Ok (Some slot) → FoundIn w u t new found
      → (buffer_answer Pass (length (replacement_words slot)) (length plan)
      ≡ buffer_answer (or_else (found_check found) (place_checks w u t new)) (length (record_plan w u t new)) (length plan))
      × (buffer_after Pass (replacement_words slot) plan ≡ buffer_after (or_else (found_check found) (place_checks w u t new)) (record_plan w u t new) plan)
  unfolding place_checks
  found_replaces {slot} e f =
      let in_slot : FoundIn w u t new (Ok (Some slot)) = subst (FoundIn w u t new) e f in
      rw e (rw in_slot.1, rw (in_slot.1, in_slot.0))

  pub found_adds : found ≡ Ok None → FoundIn w u t new found
      → (found_check found ≡ Pass) × (replaces w u t new ≡ false) × (place_checks w u t new ≡ check_crossed w u t new) × (record_plan w u t new ≡ plan_words (record_choice w u t new))
  unfolding place_checks
  found_adds e f =
      let none : replaces w u t new ≡ false = subst (FoundIn w u t new) e f in
      (ap found_check e, none, rw none, rw none)

-- a table that passes checks 1 to 4 and a rule that passes its own: what is left of an insert's checks, its cost where they pass, and its answer and buffer
module _ (w : ℕ) (u : Bool) (t : List ℕ) (given : Given) (checks : table_checks w u t ≡ Pass) (good : rule_checks w u t given ≡ Pass) where
  left_checks : place_checks w u t (rule_words w (ranked w given)) ≡ insert_checks w u t given
  unfolding insert_checks
  left_checks = passed refl checks (passed refl good refl)

  insertable : replaces w u t (rule_words w (ranked w given)) ≡ false → place_checks w u t (rule_words w (ranked w given)) ≡ Pass → Insertable w u t (ranked w given)
  insertable none e =
      ⊎_elim (λ q. q.insertable) (λ q. absurd (true≢false (sym (replacing_slot w u t (ranked w given) q.0 q.1.replacing).1 ∙ none)))
      ((insertable_law w u t given).0 (sym left_checks ∙ e))

  insert_finite : given.rule.action < 4294967296 → replaces w u t (rule_words w (ranked w given)) ≡ false → place_checks w u t (rule_words w (ranked w given)) ≡ Pass
      → (record_choice w u t (rule_words w (ranked w given))).cost < slots w t
  insert_finite small none e =
      let p = insertable none e in
      let plan = insert_least w u t (ranked w given) p (omega (arith, small, ranked_action w given)) in
      omega (arith, plan.short, plan.valid.count, entries_length w t, ap (λ (c : Choice). c.cost) (between_is w u t (ranked w given) p))

  insert_answered : (plan : List ℕ)
      → (buffer_answer (place_checks w u t (rule_words w (ranked w given))) (length (record_plan w u t (rule_words w (ranked w given)))) (length plan)
      ≡ insert_answer w u t given (length plan))
      × (buffer_after (place_checks w u t (rule_words w (ranked w given))) (record_plan w u t (rule_words w (ranked w given))) plan
      ≡ insert_plan w u t given plan)
  insert_answered plan =
      let rule = ranked w given in
      let same = buffer_same (place_checks w u t (rule_words w rule)) (record_plan w u t (rule_words w rule)) (planned_words w u t rule) plan
      (λ e. words e (decided (replaces w u t (rule_words w rule)))) in (
        same.0 ∙ ap (λ (k : Check). buffer_answer k (length (planned_words w u t rule)) (length plan)) left_checks,
        same.1 ∙ ap (λ (k : Check). buffer_after k (planned_words w u t rule) plan) left_checks,
      )
    where
      words : place_checks w u t (rule_words w (ranked w given)) ≡ Pass
          → (replaces w u t (rule_words w (ranked w given)) ≡ true) ⊎ (replaces w u t (rule_words w (ranked w given)) ≡ false)
          → record_plan w u t (rule_words w (ranked w given)) ≡ planned_words w u t (ranked w given)
      words e (inl f) = rw f
      words e (inr f) = rw f (ap plan_words (between_is w u t (ranked w given) (insertable f e)))

-- the same of a rule that is lent as a record, new being its record with its rank
module _ (w : ℕ) (u : Bool) (e : ℕ) (t lent new : List ℕ) (checks : table_checks w u t ≡ Pass) (size : length lent ≡ record_words w)
    (good : rule_checks w u t (lent_rule w e lent) ≡ Pass) (same : new ≡ ranked_record w e lent) where
  own : (check_given w (lent_rule w e lent) ≡ Pass) × (new_checks w u t (rule_words w (ranked w (lent_rule w e lent))) ≡ Pass)
  unfolding rule_checks
  own = (or_else_pass (check_given w (lent_rule w e lent)) (new_checks w u t (rule_words w (ranked w (lent_rule w e lent))))).0 good

  is_record : record_of w (ranked w (lent_rule w e lent)) ≡ new
  is_record = sym (same ∙ ranked_record_lem w e lent size ((given_law w (lent_rule w e lent)).0 own.0).0)

  pub lent_finite : replaces w u t (slot_words w new 0) ≡ false → place_checks w u t (slot_words w new 0) ≡ Pass → (record_choice w u t (slot_words w new 0)).cost < slots w t
  lent_finite =
      subst (λ (l : List ℕ). replaces w u t (slot_words w l 0) ≡ false → place_checks w u t (slot_words w l 0) ≡ Pass → (record_choice w u t (slot_words w l 0)).cost < slots w t)
      is_record (insert_finite w u t (lent_rule w e lent) checks good (rule_action w (word lent)))

  pub lent_answered : (plan : List ℕ)
      → (buffer_answer (place_checks w u t (slot_words w new 0)) (length (record_plan w u t (slot_words w new 0))) (length plan)
      ≡ insert_answer w u t (lent_rule w e lent) (length plan))
      × (buffer_after (place_checks w u t (slot_words w new 0)) (record_plan w u t (slot_words w new 0)) plan ≡ insert_plan w u t (lent_rule w e lent) plan)
  lent_answered plan =
      subst (λ (l : List ℕ).
      (buffer_answer (place_checks w u t (slot_words w l 0)) (length (record_plan w u t (slot_words w l 0))) (length plan)
      ≡ insert_answer w u t (lent_rule w e lent) (length plan))
      × (buffer_after (place_checks w u t (slot_words w l 0)) (record_plan w u t (slot_words w l 0)) plan ≡ insert_plan w u t (lent_rule w e lent) plan)) is_record
      (insert_answered w u t (lent_rule w e lent) checks good plan)

  -- and the rule that covers it is found by that record
  pub lent_cover : covering_slot w t (slot_words w new 0) ≡ insert_cover w t (lent_rule w e lent)
  lent_cover = sym (ap (λ (l : List ℕ). covering_slot w t (slot_words w l 0)) is_record)

-- the lent record has it where the rule passes what it is checked for
pub lent_ranked : (w : ℕ) (u : Bool) (e : ℕ) (t lent new before : List ℕ) {x : Check} → x ≡ rule_checks w u t (lent_rule w e lent)
    → new ≡ leaves (check_given w (lent_rule w e lent)) (ranked_record w e lent) before → x ≡ Pass → new ≡ ranked_record w e lent
unfolding rule_checks
lent_ranked w u e t lent new before f same pass =
    let good = ((or_else_pass (check_given w (lent_rule w e lent)) (new_checks w u t (rule_words w (ranked w (lent_rule w e lent))))).0 (sym f ∙ pass)).0 in
    same ∙ ap (λ (x : Check). leaves x (ranked_record w e lent) before) good

-- and then it passes check 2
pub lent_passes : (w : ℕ) (u : Bool) (e : ℕ) (t lent : List ℕ) {x : Check} → length lent ≡ record_words w → x ≡ rule_checks w u t (lent_rule w e lent) → x ≡ Pass
    → check_records w (ranked_record w e lent) ≡ Pass
unfolding rule_checks
lent_passes w u e t lent size f pass =
    ranked_passes w e lent size
    ((or_else_pass (check_given w (lent_rule w e lent)) (new_checks w u t (rule_words w (ranked w (lent_rule w e lent))))).0 (sym f ∙ pass)).0

-- and of whatever it was found to be
pub lent_found : (w : ℕ) (u : Bool) (e : ℕ) (t lent new plan : List ℕ) → table_checks w u t ≡ Pass → length lent ≡ record_words w → (x : Check) → x ≡ rule_checks w u t (lent_rule w e lent)
    → (x ≡ Pass → new ≡ ranked_record w e lent)
    → (buffer_answer (or_else x (place_checks w u t (slot_words w new 0))) (length (record_plan w u t (slot_words w new 0))) (length plan)
    ≡ insert_answer w u t (lent_rule w e lent) (length plan))
    × (buffer_after (or_else x (place_checks w u t (slot_words w new 0))) (record_plan w u t (slot_words w new 0)) plan ≡ insert_plan w u t (lent_rule w e lent) plan)
unfolding insert_checks
lent_found w u e t lent new plan checks size Pass f same = lent_answered w u e t lent new checks size (sym f) (same refl) plan
lent_found w u e t lent new plan checks size (Fail cause spot) f same =
    let given = lent_rule w e lent in
    let declined = buffer_refused (record_plan w u t (slot_words w new 0)) plan refl refl in
    let r = buffer_refused (planned_words w u t (ranked w given)) plan (passed refl checks (failed (place_checks w u t (rule_words w (ranked w given))) f refl)) refl in
    (sym declined.0 ∙ r.0, sym declined.1 ∙ r.1)

-- with the slot of the rule that covers it, which is told where the call plans
pub lent_covered : (w : ℕ) (u : Bool) (e : ℕ) (t lent new plan : List ℕ) → table_checks w u t ≡ Pass → length lent ≡ record_words w → (x : Check) → x ≡ rule_checks w u t (lent_rule w e lent)
    → (x ≡ Pass → new ≡ ranked_record w e lent)
    → with_cover (buffer_answer (or_else x (place_checks w u t (slot_words w new 0))) (length (record_plan w u t (slot_words w new 0))) (length plan)) (covering_slot w t (slot_words w new 0))
    ≡ insert_reply w u t (lent_rule w e lent) (length plan)
lent_covered w u e t lent new plan checks size x f same =
    ap (λ (told : Told). with_cover told (covering_slot w t (slot_words w new 0))) (lent_found w u e t lent new plan checks size x f same).0
    ∙ cover_asked (insert_answer w u t given (length plan)) _ _ (λ zero.
    let passes = buffer_passed (insert_checks w u t given) (length (planned_words w u t (ranked w given))) (length plan) zero in
    let good = ((insert_passes w u t given).0 passes).1 in
    lent_cover w u e t lent new checks size good (same (f ∙ good)))
  where
    given : Given
    given = lent_rule w e lent

-- and without it the answer is that of the planning
pub reply_dropped : (w : ℕ) (u : Bool) (t : List ℕ) (given : Given) (room : ℕ) → without_cover (insert_reply w u t given room) ≡ insert_answer w u t given room
reply_dropped w u t given room = cover_dropped (insert_checks w u t given) (length (planned_words w u t (ranked w given))) room (insert_cover w t given)

pub call_reply_dropped : (w : ℕ) (u : Bool) (e : ℕ) (t rule : List ℕ) (room : ℕ) → without_cover (insert_call_reply w u e t rule room) ≡ insert_call w u e t rule room
call_reply_dropped w u e t rule room = by (check_rule w (length rule))
  where
    by : (x : Check) → without_cover (with_cover (unless x (insert_answer w u t (lent_rule w e rule) room)) (insert_cover w t (lent_rule w e rule)))
        ≡ unless x (insert_answer w u t (lent_rule w e rule) room)
    by Pass = reply_dropped w u t (lent_rule w e rule) room
    by (Fail cause spot) = rw (cause_not_zero cause)
