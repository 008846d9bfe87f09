-- End theorems: document 01's demand 1, of every exported call and of script lines.
use Rattle.std.specs.Prelude.{◌≡◌, refl, Bool, true, false, not, cond, ◌&&◌, ◌↔◌, List, [], ◌∷◌, ◌++◌, ℕ, zero, suc, ◌+◌, ◌*◌, ◌<◌, eqb, leb, length, get_or, take, drop}
use Rattle.std.proofs.Math.Path.{sym, ap}
use Rattle.std.proofs.Common.{ap₂, ◌∙◌, subst, true≢false, inl, inr, ⊎_elim, arith, eqb-true, ne_eqb}
use Rattle.std.proofs.lemmas.Bool.{false≢true, eqb-false}
use Rattle.search.specs.SearchLaws.{decided}
use Rattle.records.specs.Record.{word}
use Rattle.records.specs.Checks.{Told, success, refusal, unless, or_else, passes, table_checks, cause_number}
use Rattle.records.proofs.Laws.{cause_number_once, cause_not_zero}
use Rattle.records.specs.Widths.{check_width, check_rule, leaves}
use Rattle.records.specs.Editions.{Given, lent_rule, under13, ranked}
use Rattle.records.specs.declared.Cause.{Cause}
use Rattle.records.specs.declared.Cause.TheVariants.{Shape}
use Rattle.records.specs.Verdict.{Check}
use Rattle.records.specs.Verdict.{Pass, Fail}
use Rattle.buffers.specs.Buffers.{buffer_answer, buffer_after, check_room}
use Rattle.lookups.specs.Lookup.{lookup_answer, lookup_call}
use Rattle.carrying.proofs.StepsLaws.{progress_within}
use Rattle.carrying.specs.Carrying.{progress_checks, write_checks, step_answer, step_writes, step_table, step_done, step_call, step_call_table, step_call_done}
use Rattle.image.specs.Answers.{load_answer, load_table, load_call}
use Rattle.image.specs.Checks.{load_checks, meant}
use Rattle.image.specs.Format.{image_of}
use Rattle.image.proofs.SaveLaws.{image_length}
use Rattle.neighbours.specs.Neighbours.{insert_checks}
use Rattle.delete_plans.specs.Deletes.{delete_checks, delete_words}
use Rattle.insert_plans.specs.Inserts.{planned_words}
use Rattle.histories.specs.Histories.{empty_table}
use Rattle.marshalling.specs.Cells.{data_cell, spot_cell}
use Rattle.marshalling.specs.Carried.{carry_result}
use Rattle.marshalling.proofs.CarriedLaws.{carry_refused, cause_small, cause_some}
use Rattle.script_operations.specs.declared.LineAnswer.{LineAnswer}
use Rattle.script_operations.specs.declared.LineAnswer.TheVariants.{Made, Planned, Found as LineFound, Miss, Refused}
use Rattle.script_operations.specs.Told.{LineTold, lettered, line_told, change_told, insert_told, delete_told, looked_told}
use Rattle.script_commands.specs.declared.Command.{Command}
use Rattle.script_commands.specs.declared.Command.TheVariants.{Table, Insert, Delete, Lookup, Malformed}
use Rattle.script_commands.specs.Commands.{inserted_rule, key_of, command_of}
use Rattle.script_answers.specs.Answers.{table_bytes, miss_bytes, refusal_bytes}
use Rattle.script_lines.specs.Blocks.{Outcome}
use Rattle.script_printing.specs.Printing.{Shown}
use Rattle.script_printing.specs.PrintedLines.{printed}
use Rattle.records.specs.Writes.{apply_word}
use Rattle.script_operations.specs.Outcomes.{outcome_of, refused, lookup_bytes, change_outcome, insert_outcome, delete_outcome}
use Rattle.script.specs.Script.{table_in, table_outcome, command_outcome}
use Rattle.script.specs.Told.{table_told, command_told}
use Rattle.refusals.specs.Rows.{Row, AnsweredBy}
use Rattle.refusals.proofs.RowsLaws.{no_refusal, refusal_once}
use Rattle.refusals.proofs.CallsLaws.{lookup_call_rows_lem, insert_call_rows_lem, delete_call_rows_lem, save_call_rows_lem, load_call_rows_lem, step_call_rows_lem}
use Rattle.refusals.proofs.LinesLaws.{line_by_rows}
use Rattle.refusals.proofs.CarryingLaws.{step_checks, step_told_lem}
use Rattle.tcam.specs.declared.carry.Progress.{Progress}
use Rattle.tcam.specs.Cells.{PlanLeft}
use Rattle.promises.specs.FirstDemand.{DeclinesBy, CarriesBy, IsRefusal, FirstDemand}

-- the number and the cell for the spot tell an answer's rows
pub told_declines : (rows : List Row) (told : Told) (result spot spot' : ℕ) → AnsweredBy rows told → result ≡ told.number → spot' ≡ spot_cell told spot
    → DeclinesBy rows result spot'
told_declines rows told result spot spot' answer e f = ⊎_elim went declined answer.either
  where
    went : (values : List ℕ) × (told ≡ success values) → DeclinesBy rows result spot'
    went w =
        let zero_result : result ≡ 0 = e ∙ ap (λ (t : Told). t.number) w.1 in
        record {
          either = inl zero_result;
          refused = λ cause place. (
            λ p. absurd (true≢false (ap (λ (n : ℕ). eqb n 0) (sym zero_result ∙ p.0) ∙ cause_not_zero cause)),
            λ d. absurd (no_refusal w.0 cause place (sym w.1 ∙ (answer.declined cause place).1 d)),
          );
          accepted = (λ z. answer.accepted.0 (sym e ∙ z), λ a. zero_result);
        }

    declined : (cause : Cause) × (place : ℕ) × (told ≡ refusal cause place) → DeclinesBy rows result spot'
    declined w =
        let c = w.0 in
        let s = w.1 in
        let number : result ≡ cause_number c = e ∙ ap (λ (t : Told). t.number) w.2 in
        let put : spot' ≡ s = f ∙ (ap (λ (t : Told). spot_cell t spot) w.2 ∙ ap (λ (zero_number : Bool). cond zero_number spot s) (cause_not_zero c)) in
        record {
          either = inr (c, number);
          refused = λ cause place. (
            λ p. let same : c ≡ cause = cause_number_once c cause (sym number ∙ p.0) in
                let at : s ≡ place = sym put ∙ p.1 in
                (answer.declined cause place).0 (w.2 ∙ ap₂ refusal same at),
            λ d. let same = refusal_once c cause s place (sym w.2 ∙ (answer.declined cause place).1 d) in
                (number ∙ ap cause_number same.0, put ∙ same.1),
          );
          accepted = (λ z. answer.accepted.0 (sym e ∙ z), λ a. e ∙ answer.accepted.1 a);
        }

-- a refusal leaves a data cell, and the lent buffer or table
pub cell_kept : (told : Told) (k before : ℕ) → IsRefusal told.number → data_cell told k before ≡ before
cell_kept told k before refused = ap (λ (zero_number : Bool). cond zero_number (get_or told.values k 0) before) (ne_eqb told.number 0 refused)

buffer_kept : (checks : Check) (contents buffer : List ℕ) → IsRefusal (buffer_answer checks (length contents) (length buffer)).number
    → buffer_after checks contents buffer ≡ buffer
unfolding buffer_answer buffer_after
buffer_kept checks contents buffer refused = pick (or_else checks (check_room (length contents) (length buffer))) refused
  where
    pick : (x : Check) → IsRefusal (unless x (success (length contents ∷ []))).number
        → cond (passes x) (contents ++ drop (length contents) buffer) buffer ≡ buffer
    pick Pass r = absurd (r refl)
    pick (Fail cause spot) r = refl

load_kept : (w : ℕ) (u : Bool) (b t : List ℕ) → IsRefusal (load_answer w u b t).number → load_table w u b t ≡ t
unfolding load_answer load_table
load_kept w u b t refused = pick (load_checks w u b t) refused
  where
    pick : (x : Check) → IsRefusal (unless x (success [])).number → cond (passes x) (meant w b (length t)) t ≡ t
    pick Pass r = absurd (r refl)
    pick (Fail cause spot) r = refl

-- a call that declines for its width, or for the words lent with it, leaves a buffer or a table too
lent_kept : (check : Check) (told : Told) (after before : List ℕ) → (IsRefusal told.number → after ≡ before)
    → IsRefusal (unless check told).number → leaves check after before ≡ before
lent_kept Pass told after before kept refused = kept refused
lent_kept (Fail cause spot) told after before kept refused = refl

-- the calls that write into a lent buffer
buffer_call : (rows : List Row) (lent checks : Check) (contents plan after : List ℕ) (needed result count count' spot spot' : ℕ) → needed ≡ length contents
    → AnsweredBy rows (unless lent (buffer_answer checks needed (length plan)))
    → PlanLeft (unless lent (buffer_answer checks needed (length plan))) (leaves lent (buffer_after checks contents plan) plan) result after count count' spot spot'
    → DeclinesBy rows result spot' × (IsRefusal result → (after ≡ plan) × (count' ≡ count))
buffer_call rows lent checks contents plan after needed result count count' spot spot' size answer left = (
  told_declines rows _ result spot spot' answer left.number left.spotted,
  λ refused.
      let told = unless lent (buffer_answer checks needed (length plan)) in
      let declines : IsRefusal told.number = λ z. refused (left.number ∙ z) in (
        left.plan ∙ lent_kept lent (buffer_answer checks needed (length plan)) _ plan
            (λ r. buffer_kept checks contents plan (subst (λ (n : ℕ). IsRefusal (buffer_answer checks n (length plan)).number) size r)) declines,
        left.counted ∙ cell_kept told 0 count declines,
      ),
)

-- one that returned 0 has counted what it wrote
buffer_accepts : (checks : Check) (needed room : ℕ) → (buffer_answer checks needed room).number ≡ 0 → buffer_answer checks needed room ≡ success (needed ∷ [])
unfolding buffer_answer
buffer_accepts checks needed room e = pick (or_else checks (check_room needed room)) e
  where
    pick : (x : Check) → (unless x (success (needed ∷ []))).number ≡ 0 → unless x (success (needed ∷ [])) ≡ success (needed ∷ [])
    pick Pass e = refl
    pick (Fail cause spot) e = absurd (true≢false (sym (ap (λ (n : ℕ). eqb n 0) e) ∙ cause_not_zero cause))

-- a call that returned 0 passed the check of its width and of the words lent with it
pub lent_accepted : (check : Check) (told : Told) → (unless check told).number ≡ 0 → check ≡ Pass
lent_accepted Pass told e = refl
lent_accepted (Fail cause spot) told e = absurd (true≢false (sym (ap (λ (n : ℕ). eqb n 0) e) ∙ cause_not_zero cause))

pub counted_answer : (lent checks : Check) (needed room : ℕ) (planned after : List ℕ) (count count' spot spot' : ℕ)
    → PlanLeft (unless lent (buffer_answer checks needed room)) planned 0 after count count' spot spot'
    → buffer_answer checks needed room ≡ success (count' ∷ [])
counted_answer lent checks needed room planned after count count' spot spot' left =
    let passed = ap (λ (x : Check). unless x (buffer_answer checks needed room)) (lent_accepted lent _ (sym left.number)) in
    let told = buffer_accepts checks needed room (sym (ap (λ (t : Told). t.number) passed) ∙ sym left.number) in
    told ∙ ap (λ (n : ℕ). success (n ∷ [])) (sym (left.counted ∙ ap (λ (t : Told). data_cell t 0 count) (passed ∙ told)))

-- carrying out: its answer in three cases
pub data StepCase (progress : Progress) : Told → Type 0 where
  wrote : (done : ℕ) → (progress.done ≡ progress.total → ⊥) → StepCase progress (success (done ∷ []))
  ended : progress.done ≡ progress.total → StepCase progress (success [])
  stopped : (cause : Cause) (spot : ℕ) → StepCase progress (refusal cause spot)

step_case : (w : ℕ) (t plan : List ℕ) (given : Given) (progress : Progress) → StepCase progress (step_answer w t plan given progress.done progress.total)
step_case w t plan given progress =
    subst (StepCase progress) (step_told_lem w t plan given progress.done progress.total)
    (pick (step_checks w t plan given progress.done progress.total) (eqb progress.done progress.total) refl)
  where
    pick : (x : Check) (b : Bool) → eqb progress.done progress.total ≡ b
        → StepCase progress (unless x (cond b (success []) (success ((progress.done + 1) ∷ []))))
    pick (Fail cause spot) b e = stopped cause spot
    pick Pass true e = ended (eqb-true _ _ e)
    pick Pass false e = wrote (progress.done + 1) (eqb-false _ _ e)

-- behind a check of what is lent with the call
pub lent_case : (check : Check) (progress : Progress) (told : Told) → StepCase progress told → StepCase progress (unless check told)
lent_case Pass progress told case = case
lent_case (Fail cause spot) progress told case = stopped cause spot

pub call_case : (w e : ℕ) (t plan rule : List ℕ) (progress : Progress) → StepCase progress (step_call w e t plan rule progress.done progress.total)
call_case w e t plan rule progress = lent_case (check_rule w (length rule)) progress _ (step_case w t plan (lent_rule w e rule) progress)

pub carries_by : (rows : List Row) (progress : Progress) (told : Told) (result : ℕ) → AnsweredBy rows told → StepCase progress told → result ≡ carry_result told
    → CarriesBy rows progress result
carries_by rows progress told result answer (wrote done other) e = record {
  refused = λ cause place. (λ p. absurd (omega (arith, e, p.0, cause_some cause)), λ d. absurd (no_refusal _ cause place ((answer.declined cause place).1 d)));
  accepted = (λ either. answer.accepted.0 refl, λ a. inl e);
  finished = (λ f. absurd (omega (arith, e, f)), λ p. absurd (other p.1));
}
carries_by rows progress told result answer (ended same) e = record {
  refused = λ cause place. (λ p. absurd (omega (arith, e, p.0, cause_small cause)), λ d. absurd (no_refusal _ cause place ((answer.declined cause place).1 d)));
  accepted = (λ either. answer.accepted.0 refl, λ a. inr e);
  finished = (λ f. (answer.accepted.0 refl, same), λ p. e);
}
carries_by rows progress told result answer (stopped c s) e =
    let is = e ∙ carry_refused c s in
    let some = cause_some c in
    let small = cause_small c in
    record {
      refused = λ cause place. (
        λ p. let same = cause_number_once c cause (omega (arith, is, p.0, small, cause_small cause)) in
            let at : s ≡ place = omega (arith, is, p.1, small) in
            (answer.declined cause place).0 (ap (λ (x : Cause). refusal x s) same ∙ ap (refusal cause) at),
        λ d. let same = (answer.declined cause place).1 d in
            let number : cause_number c ≡ cause_number cause = ap (λ (t : Told). t.number) same in
            let spot : s ≡ place = ap (λ (t : Told). get_or t.values 0 0) same in
            (omega (arith, is, number, small), omega (arith, is, spot, small)),
      );
      accepted = (
        λ either. absurd (⊎_elim (λ z. omega (arith, is, z, some)) (λ z. omega (arith, is, z, small)) either),
        λ a. absurd (omega (arith, answer.accepted.1 a, some)),
      );
      finished = (λ z. absurd (omega (arith, is, z, small)), λ p. absurd (omega (arith, answer.accepted.1 p.0, some)));
    }

-- a refusal is not the result of a write
pub never_wrote : (cause : Cause) (spot : ℕ) → carry_result (refusal cause spot) ≡ 0 → ⊥
never_wrote cause spot e = omega (arith, sym (carry_refused cause spot) ∙ e, cause_some cause)

-- the result of a write is returned exactly where one is made
pub step_writes_lem : (w : ℕ) (t plan : List ℕ) (given : Given) (done total : ℕ)
    → (carry_result (step_answer w t plan given done total) ≡ 0) ↔ (step_writes w t plan given done total ≡ true)
unfolding step_answer step_writes
step_writes_lem w t plan given done total =
    pick (progress_checks w t (length plan) done total) (eqb done total) (write_checks w t given (get_or plan done 0) done)
  where
    pick : (p : Check) (b : Bool) (c : Check)
        → (carry_result (unless p (cond b (success []) (unless c (success ((done + 1) ∷ []))))) ≡ 0) ↔ (passes p && (not b && passes c) ≡ true)
    pick (Fail cause spot) b c = (λ e. absurd (never_wrote cause spot e), λ e. absurd (false≢true e))
    pick Pass true c = (λ e. absurd (omega (arith, e)), λ e. absurd (false≢true e))
    pick Pass false Pass = (λ e. refl, λ e. refl)
    pick Pass false (Fail cause spot) = (λ e. absurd (never_wrote cause spot e), λ e. absurd (false≢true e))

-- where it does not write nothing changes
step_kept : (w : ℕ) (t plan : List ℕ) (given : Given) (done total : ℕ) → (carry_result (step_answer w t plan given done total) ≡ 0 → ⊥)
    → (step_table w t plan given done total ≡ t) × (step_done w t plan given done total ≡ done)
unfolding step_table step_done
step_kept w t plan given done total other =
    let still : step_writes w t plan given done total ≡ false
    = ⊎_elim (λ makes. absurd (other ((step_writes_lem w t plan given done total).1 makes))) (λ e. e) (decided (step_writes w t plan given done total)) in
    (rw still, rw still)

carry_kept : (w e : ℕ) (t plan rule : List ℕ) (done total : ℕ) → (carry_result (step_call w e t plan rule done total) ≡ 0 → ⊥)
    → (step_call_table w e t plan rule done total ≡ t) × (step_call_done w e t plan rule done total ≡ done)
carry_kept w e t plan rule done total other = lent (check_rule w (length rule)) other
  where
    lent : (x : Check) → (carry_result (unless x (step_answer w t plan (lent_rule w e rule) done total)) ≡ 0 → ⊥)
        → (leaves x (step_table w t plan (lent_rule w e rule) done total) t ≡ t) × (leaves x (step_done w t plan (lent_rule w e rule) done total) done ≡ done)
    lent Pass other = step_kept w t plan (lent_rule w e rule) done total other
    lent (Fail cause spot) other = (refl, refl)

-- a script line that is refused
refused_line : (a : LineAnswer) (cause : Cause) (place : ℕ) → (line_told a).told ≡ refusal cause place → a ≡ Refused cause place
refused_line (Made new) cause place e = absurd (no_refusal _ cause place e)
refused_line (Planned info) cause place e = absurd (no_refusal _ cause place e)
refused_line (LineFound hit) cause place e = absurd (no_refusal _ cause place e)
refused_line Miss cause place e = absurd (no_refusal _ cause place e)
refused_line (Refused c s) cause place e =
    let same = refusal_once c cause s place e in ap₂ Refused same.0 same.1

-- a line that is refused keeps the table and prints its number and spot
told_bytes : Told → List ℕ
told_bytes told = refusal_bytes told.number (get_or told.values 0 0)

change_refused : (t : List ℕ) (checks : Check) (words after : List ℕ) → (change_told checks words).letter ≡ 82
    → change_outcome t checks words after ≡ outcome_of t (told_bytes (change_told checks words).told)
unfolding told_bytes
change_refused t Pass words after e = absurd (omega (arith, e))
change_refused t (Fail cause spot) words after e = refl

line_refused : (t : List ℕ) (number : ℕ) (command : Command) → (command_told t number command).letter ≡ 82
    → command_outcome t number command ≡ outcome_of t (told_bytes (command_told t number command).told)
unfolding table_told table_outcome insert_told insert_outcome delete_told delete_outcome told_bytes
line_refused t number (Table new) e = pick (leb 1 new.slots && leb new.slots 1024) e
  where
    pick : (good : Bool) → (cond good (lettered 78 (success (new.slots ∷ []))) (lettered 82 (refusal Shape 0))).letter ≡ 82
        → cond good (outcome_of (empty_table 2 new.slots) (table_bytes new.slots)) (refused t 1 0)
        ≡ outcome_of t (told_bytes (cond good (lettered 78 (success (new.slots ∷ []))) (lettered 82 (refusal Shape 0))).told)
    pick true e = absurd (omega (arith, e))
    pick false e = refl
line_refused t number (Insert insertion) e = change_refused t (insert_checks 2 false t (under13 (inserted_rule insertion))) _ _ e
line_refused t number (Delete deletion) e = change_refused t (delete_checks 2 false t deletion.id) _ _ e
line_refused t number (Lookup query) e = looked (lookup_answer 2 t (word (key_of query))) e
  where
    looked : (told : Told) → (looked_told told).letter ≡ 82 → outcome_of t (lookup_bytes told) ≡ outcome_of t (told_bytes (looked_told told).told)
    looked told f = by (eqb told.number 0) (eqb (length told.values) 0) f
      where
        by : (b m : Bool) → (cond b (cond m (lettered 77 told) (lettered 65 told)) (lettered 82 told)).letter ≡ 82
            → outcome_of t (cond b (cond m miss_bytes (printed 65 told.values)) (told_bytes told))
            ≡ outcome_of t (told_bytes (cond b (cond m (lettered 77 told) (lettered 65 told)) (lettered 82 told)).told)
        by true true g = absurd (omega (arith, g))
        by true false g = absurd (omega (arith, g))
        by false m g = refl
line_refused t number Malformed e = refl

-- the table at the start of the memory, and what stands past it
front_kept : (n : ℕ) (l : List ℕ) → take n l ++ drop (length (take n l)) l ≡ l
front_kept zero l = refl
front_kept (suc n) [] = refl
front_kept (suc n) (a ∷ l) = ap (λ (rest : List ℕ). a ∷ rest) (front_kept n l)

memory_kept : (memory : List ℕ) (slots : ℕ) (table : List ℕ) → table ≡ table_in memory slots → table ++ drop (length table) memory ≡ memory
memory_kept memory slots table e = ap (λ (u : List ℕ). u ++ drop (length u) memory) e ∙ front_kept (slots * 6) memory

front_again : (n : ℕ) (l : List ℕ) → take (length (take n l)) l ≡ take n l
front_again zero l = refl
front_again (suc n) [] = refl
front_again (suc n) (a ∷ l) = ap (λ (rest : List ℕ). a ∷ rest) (front_again n l)

shown_as : {out out' text : List ℕ} {count : ℕ} (cause : Cause) (place : ℕ) → text ≡ told_bytes (refusal cause place) → Shown out text count out'
    → Shown out (printed 82 (cause_number cause ∷ place ∷ [])) count out'
unfolding told_bytes
shown_as {out} {out'} {text} {count} cause place e s = subst (λ (x : List ℕ). Shown out x count out') e s

-- where it writes, it makes the next write of the plan
step_made : (w : ℕ) (t plan : List ℕ) (given : Given) (done total : ℕ) → carry_result (step_answer w t plan given done total) ≡ 0
    → (step_table w t plan given done total ≡ apply_word w t (ranked w given) (get_or plan done 0)) × (step_done w t plan given done total ≡ done + 1)
unfolding step_table step_done
step_made w t plan given done total zero_result =
    let makes = (step_writes_lem w t plan given done total).0 zero_result in (rw makes, rw makes)

-- and that word is one of the plan's
step_within : (w : ℕ) (t plan : List ℕ) (given : Given) (done total : ℕ) → carry_result (step_answer w t plan given done total) ≡ 0 → done < length plan
unfolding step_answer
step_within w t plan given done total zero_result =
    pick (progress_checks w t (length plan) done total) refl (eqb done total) refl (write_checks w t given (get_or plan done 0) done) zero_result
  where
    pick : (p : Check) → progress_checks w t (length plan) done total ≡ p → (b : Bool) → eqb done total ≡ b → (c : Check)
        → carry_result (unless p (cond b (success []) (unless c (success ((done + 1) ∷ []))))) ≡ 0 → done < length plan
    pick (Fail cause spot) e b f c zero-here = absurd (never_wrote cause spot zero-here)
    pick Pass e true f c zero-here = absurd (omega (arith, zero-here))
    pick Pass e false f c zero-here =
        let bounds = progress_within w t (length plan) done total e in omega (arith, bounds.0, bounds.1, eqb-false done total f)

-- so it is of the call, which wrote at a width that there is, with a rule of so many words
module _ (w e : ℕ) (t plan rule : List ℕ) (done total : ℕ) (zero_result : carry_result (step_call w e t plan rule done total) ≡ 0) where
  given : Given
  given = lent_rule w e rule

  wrote_lent : check_rule w (length rule) ≡ Pass
  wrote_lent = pick (check_rule w (length rule)) zero_result
    where
      pick : (x : Check) → carry_result (unless x (step_answer w t plan (lent_rule w e rule) done total)) ≡ 0 → x ≡ Pass
      pick Pass z = refl
      pick (Fail cause spot) z = absurd (never_wrote cause spot z)

  wrote_step : carry_result (step_answer w t plan given done total) ≡ 0
  unfolding given
  wrote_step = sym (ap (λ (x : Check). carry_result (unless x (step_answer w t plan given done total))) wrote_lent) ∙ zero_result

  pub carry_made : (step_call_table w e t plan rule done total ≡ apply_word w t (ranked w (lent_rule w e rule)) (get_or plan done 0)) × (step_call_done w e t plan rule done total ≡ done + 1)
  unfolding given
  carry_made =
      let made = step_made w t plan given done total wrote_step in (
        ap (λ (x : Check). leaves x (step_table w t plan given done total) t) wrote_lent ∙ made.0,
        ap (λ (x : Check). leaves x (step_done w t plan given done total) done) wrote_lent ∙ made.1,
      )

  pub carry_within : done < length plan
  unfolding given
  carry_within = step_within w t plan given done total wrote_step

-- document 01's demand 1
pub first_demand : FirstDemand
first_demand = record {
  numbers = refl;
  later_numbers = refl;
  once = cause_number_once;
  lookup = λ w t key result slot slot' id id' action action' spot spot' left.
      let told = lookup_call w t key in (
        told_declines _ told result spot spot' (lookup_call_rows_lem w t key) left.number left.spotted,
        λ refused. let declines : IsRefusal told.number = λ z. refused (left.number ∙ z) in (
          left.slotted ∙ cell_kept told 0 slot declines,
          left.named ∙ cell_kept told 1 id declines,
          left.acted ∙ cell_kept told 2 action declines,
        ),
      );
  insert = λ w u e t rule result plan after count count' spot spot' left.
      let given = lent_rule w e rule in
      buffer_call _ (check_rule w (length rule)) (insert_checks w u t given) (planned_words w u t (ranked w given)) plan after _ result count count' spot spot' refl
      (insert_call_rows_lem w u e t rule (length plan)) left.left;
  delete = λ w u t id result plan after count count' spot spot' left.
      buffer_call _ (check_width w) (delete_checks w u t id) (delete_words w t id) plan after _ result count count' spot spot' refl
      (delete_call_rows_lem w u t id (length plan)) left;
  save = λ w u t result image after bytes bytes' spot spot' left.
      buffer_call _ (check_width w) (table_checks w u t) (image_of w t) image after _ result bytes bytes' spot spot' (sym (image_length w t))
      (save_call_rows_lem w u t (length image)) left;
  load = λ w u b result t after spot spot' left. (
    told_declines _ (load_call w u b t) result spot spot' (load_call_rows_lem w u b t) left.number left.spotted,
    λ refused. left.loaded ∙ lent_kept (check_width w) (load_answer w u b t) _ t (load_kept w u b t) (λ z. refused (left.number ∙ z)),
  );
  carry = λ w e t plan rule progress result after progress' left. (
    carries_by _ progress _ result (step_call_rows_lem w e t plan rule progress.done progress.total) (call_case w e t plan rule progress) left.told,
    λ other. let kept = carry_kept w e t plan rule progress.done progress.total (λ z. other (left.told ∙ z)) in
        (left.table ∙ kept.0, left.advanced ∙ kept.1, left.in_all),
    λ zero_result. let made = carry_made w e t plan rule progress.done progress.total (sym left.told ∙ zero_result) in
        (left.table ∙ made.0, left.advanced ∙ made.1, left.in_all),
  );
  line = λ memory memory' slots number line out out' ran left told. (
    λ cause place. (
      λ e. ((line_by_rows (table_in memory slots) number line).declined cause place).0 (ap (λ (x : LineTold). x.told) (sym told ∙ ap line_told e)),
      λ d. refused_line ran.answer cause place (ap (λ (x : LineTold). x.told) told ∙ ((line_by_rows (table_in memory slots) number line).declined cause place).1 d),
    ),
    λ cause place e.
        let outcome = line_refused (table_in memory slots) number (command_of line) (ap (λ (x : LineTold). x.letter) (sym told ∙ ap line_told e)) in
        let table = ap (λ (x : Outcome (List ℕ)). x.table) outcome in
        let bytes = ap (λ (x : Outcome (List ℕ)). x.printed) outcome ∙ ap (λ (x : LineTold). told_bytes x.told) (sym told ∙ ap line_told e) in
        let kept = left.table ∙ memory_kept memory slots _ table in (
          kept,
          ap₂ (λ (m : List ℕ) (n : ℕ). take n m) kept (left.slots ∙ ap length table) ∙ front_again (slots * 6) memory,
          shown_as cause place bytes left.shown,
        ),
  );
}
