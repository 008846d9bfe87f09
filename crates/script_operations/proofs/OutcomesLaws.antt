-- Laws by which the code meets the definitions: what a planning call answered comes to the outcome of its line.
-- A buffer of 1,024 words is never too short, since no plan has more words than the table slots.
use Rattle.std.specs.Prelude.{◌≡◌, refl, false, List, [], ◌∷◌, ℕ, ◌≤◌, ◌+◌, ◌-◌, ◌<◌, eqb, length, get_or, take, drop}
use Rattle.std.proofs.Common.{sym, ap, ap₂, ◌∙◌, subst₂, true≢false, length-append, length-drop, arith, le-ltb}
use Rattle.std.proofs.Math.Path.{subst}
use Rattle.std.proofs.Math.Seq.{take-append_seam}
use Rattle.records.specs.Checks.{Told, cause_number, success, refusal, table_checks}
use Rattle.records.specs.Writes.{apply_words}
use Rattle.records.specs.Editions.{under13, rank_of, ranked}
use Rattle.records.specs.declared.Rule.{Rule}
use Rattle.records.specs.Verdict.{Check}
use Rattle.records.specs.Verdict.{Pass, Fail}
use Rattle.records.proofs.Laws.{cause_not_zero, or_else_pass, slot_checks_law, table_checks_law}
use Rattle.records.specs.declared.Cause.{Cause}
use Rattle.records.proofs.EntriesLaws.{shaped_slots}
use Rattle.buffers.specs.Buffers.{buffer_answer, buffer_after, check_room}
use Rattle.buffers.proofs.BuffersLaws.{buffer_refused, buffer_written}
use Rattle.neighbours.specs.Neighbours.{insert_checks}
use Rattle.delete_plans.specs.Deletes.{delete_checks, delete_words, delete_answer, delete_plan}
use Rattle.insert_plans.specs.Inserts.{planned_words}
use Rattle.insert_plans.proofs.ReplacementsLaws.{planned_few}
use Rattle.carrying.specs.Calls.{after_calls}
use Rattle.histories.proofs.Demand2Laws.{demand_2_delete, carried_whole}
use Rattle.script_lines.specs.Blocks.{Outcome}
use Rattle.script_printing.specs.Printing.{Shown}
use Rattle.script_answers.specs.Answers.{plan_bytes, refusal_bytes}
use Rattle.script_operations.specs.Outcomes.{outcome_of, lookup_bytes, change_outcome, delete_outcome, no_rule, Changed, WithinRoom}
use Rattle.script_operations.specs.Outcomes.{plan_outcome}
use Rattle.script_operations.specs.Told.{change_told, delete_told, planned_told}

-- a plan's answer is carried out and printed, or the refusal is
module _ (t plan : List ℕ) (rule : Rule) {told : Told} {r : ℕ} {out out' : List ℕ} where
  pub changed_planned : (count : ℕ) {after : List ℕ} → told ≡ success (count ∷ []) → after ≡ (after_calls 2 t plan (under13 rule) count count).table
      → Shown out (plan_bytes (take count plan)) r out' → Changed (plan_outcome told t plan rule) r after out out'
  unfolding plan_outcome
  changed_planned count {after} e f s =
      subst (λ (x : Told). Changed (plan_outcome x t plan rule) r after out out') (sym e) (record { table = f; shown = s })

  pub changed_refused : (cause : Cause) (spot : ℕ) → told ≡ refusal cause spot → Shown out (refusal_bytes (cause_number cause) spot) r out'
      → Changed (plan_outcome told t plan rule) r t out out'
  unfolding plan_outcome
  changed_refused cause spot e s =
      subst (λ (x : Told). Changed (plan_outcome x t plan rule) r t out out') (sym e) (rw (cause_not_zero cause) (record { table = refl; shown = s }))

-- what a planning call answers and leaves in a buffer that is long enough comes to the change
pub plan_is : (t : List ℕ) (rule : Rule) (checks : Check) (words plan : List ℕ) (after : List ℕ)
    → (checks ≡ Pass → length words ≤ length plan)
    → (checks ≡ Pass → (after_calls 2 t (buffer_after checks words plan) (under13 rule) (length words) (length words)).table ≡ after)
    → WithinRoom (buffer_answer checks (length words) (length plan)) (length (buffer_after checks words plan))
    × (plan_outcome (buffer_answer checks (length words) (length plan)) t (buffer_after checks words plan) rule ≡ change_outcome t checks words after)
unfolding plan_outcome
plan_is t rule (Fail cause spot) words plan after long made =
    let e = sym (buffer_refused {x = Fail cause spot} words plan refl refl).0 in (
      λ n. absurd (true≢false (sym (ap (λ (k : ℕ). eqb k 0) (ap (λ (x : Told). x.number) (sym e) ∙ n)) ∙ cause_not_zero cause)),
      ap (λ (x : Told). plan_outcome x t (buffer_after (Fail cause spot) words plan) rule) e ∙ rw (cause_not_zero cause),
    )
plan_is t rule Pass words plan after long made =
    let r = buffer_written {x = Pass} words plan refl refl (long refl) in
    let e = sym r.0 in
    let n : length (buffer_after Pass words plan) ≡ length words + (length plan - length words) =
    ap length (sym r.1) ∙ (length-append words (drop (length words) plan) ∙ ap (λ (k : ℕ). length words + k) (length-drop (length words) plan)) in
    let front : take (length words) (buffer_after Pass words plan) ≡ words =
    ap (take (length words)) (sym r.1) ∙ take-append_seam words (drop (length words) plan) in (
      λ z. let count : get_or (buffer_answer Pass (length words) (length plan)).values 0 0 ≡ length words = ap (λ (x : Told). get_or x.values 0 0) e in omega (arith, count, n, long refl),
      ap (λ (x : Told). plan_outcome x t (buffer_after Pass words plan) rule) e
          ∙ ap₂ (λ (a b : List ℕ). outcome_of a (plan_bytes b)) (made refl) front,
    )

-- and its answer is the change's
pub told_is : (checks : Check) (words : List ℕ) (room : ℕ) → (checks ≡ Pass → length words ≤ room)
    → planned_told (buffer_answer checks (length words) room) ≡ change_told checks words
unfolding buffer_answer check_room
told_is (Fail cause spot) words room long = rw (cause_not_zero cause)
told_is Pass words room long = rw (le-ltb room (length words) (long refl))

-- the plan of an insert has at most as many words as the table has slots
pub insert_short : (t : List ℕ) (rule : Rule) → rule.action < 4294967296 → insert_checks 2 false t (under13 rule) ≡ Pass → length (planned_words 2 false t rule) ≤ 1024
unfolding ranked rank_of insert_checks
insert_short t rule small e =
    let table = ((or_else_pass (table_checks 2 false t) _).0 e).0 in
    let shape = ((slot_checks_law 2 t).0 ((table_checks_law 2 false t).0 table).0).0 in
    omega (arith, planned_few 2 false t (under13 rule) small e, (shaped_slots 2 t shape).1)

-- a D line
pub delete_is : (t : List ℕ) (id : ℕ) (plan plan' : List ℕ) (told : Told) → length plan ≡ 1024
    → told ≡ delete_answer 2 false t id (length plan) → plan' ≡ delete_plan 2 false t id plan
    → WithinRoom told (length plan') × (plan_outcome told t plan' no_rule ≡ delete_outcome t id)
unfolding delete_outcome ranked rank_of
delete_is t id plan plan' told n e f =
    let words = delete_words 2 t id in
    let r = plan_is t no_rule (delete_checks 2 false t id) words plan (apply_words 2 t no_rule words) (λ p. omega (arith, n))
    (λ p. carried_whole (demand_2_delete 2 false t id plan 1 (under13 no_rule) (sym (buffer_written words plan refl p (omega (arith, n))).0))) in
    subst₂ (λ (x : Told) (y : List ℕ). WithinRoom x (length y) × (plan_outcome x t y no_rule ≡ delete_outcome t id)) (sym e) (sym f) r

pub delete_told_lem : (t : List ℕ) (id room : ℕ) (told : Told) → room ≡ 1024 → told ≡ delete_answer 2 false t id room → planned_told told ≡ delete_told t id
unfolding delete_told
delete_told_lem t id room told n e = ap planned_told e ∙ told_is (delete_checks 2 false t id) (delete_words 2 t id) room (λ p. omega (arith, n))

-- the same of what is left
pub changed_is : {a b : Outcome (List ℕ)} {r : ℕ} {after out out' : List ℕ} → a ≡ b → Changed a r after out out' → Changed b r after out out'
changed_is {r = r} {after} {out} {out'} e c = subst (λ (x : Outcome (List ℕ)). Changed x r after out out') e c

pub shown_is : {a b : List ℕ} {r : ℕ} {out out' : List ℕ} → a ≡ b → Shown out a r out' → Shown out b r out'
shown_is {r = r} {out} {out'} e s = subst (λ (x : List ℕ). Shown out x r out') e s

-- a refused lookup prints its number and spot
pub bytes_refused : (cause : Cause) (spot : ℕ) → refusal_bytes (cause_number cause) spot ≡ lookup_bytes (refusal cause spot)
bytes_refused cause spot = rw (cause_not_zero cause)
