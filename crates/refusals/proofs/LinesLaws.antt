-- End theorems on refused script lines: a line is declined exactly by its list of rows.
use Rattle.std.specs.Prelude.{◌≡◌, refl, Bool, true, false, cond, ◌&&◌, ◌⊎◌, List, [], ◌∷◌, ℕ, ◌≤◌, ◌<◌, eqb, leb, length}
use Rattle.std.proofs.Common.{sym, ap, ◌∙◌, subst, true≢false, inl, inr, ⊎_elim, arith, leb-true, le-leb}
use Rattle.std.proofs.Math.Decide.{dec_lt}
use Rattle.search.specs.SearchLaws.{and_law}
use Rattle.records.specs.Record.{word}
use Rattle.records.specs.Checks.{Told, success, refusal, unless}
use Rattle.records.specs.Editions.{under13}
use Rattle.records.specs.declared.Rule.{Rule}
use Rattle.records.specs.declared.Cause.TheVariants.{Shape, Line}
use Rattle.records.specs.Verdict.{Check}
use Rattle.records.specs.Verdict.{Pass, Fail}
use Rattle.delete_plans.specs.Deletes.{delete_words}
use Rattle.insert_plans.specs.Inserts.{planned_words}
use Rattle.script_commands.specs.declared.Command.{Command}
use Rattle.script_commands.specs.declared.Command.TheVariants.{Table, Insert, Delete, Lookup, Malformed}
use Rattle.script_commands.specs.Commands.{inserted_rule, key_of, command_of}
use Rattle.script_commands.specs.Forms.{WellFormed}
use Rattle.script_commands.specs.FormsLaws.{says, malformed_law, said_formed}
use Rattle.script_operations.specs.Told.{lettered, change_told, insert_told, delete_told, looked_told}
use Rattle.script.specs.Told.{table_told, command_told}
use Rattle.refusals.specs.Rows.{Row, row_at, AnsweredBy}
use Rattle.refusals.proofs.RowsLaws.{Agrees, answered}
use Rattle.refusals.proofs.TableLaws.{test_row}
use Rattle.refusals.proofs.PlanningLaws.{insert_rows_lem, delete_rows_lem}
use Rattle.refusals.proofs.CallsLaws.{lookup_by_rows}
use Rattle.refusals.specs.Calls.{new_rule_rows, old_rule_rows}
use Rattle.refusals.specs.Lines.{command_rows, line_rows}

-- a row whose condition does not hold, before the others
passed_first : (row : Row) (rows : List Row) (told : Told) → (row.condition → ⊥) → AnsweredBy rows told → AnsweredBy (row ∷ rows) told
passed_first row rows told passed rest = record {
  either = rest.either;
  declined = λ cause spot. (
    λ e. inr (passed, (rest.declined cause spot).0 e),
    λ d. ⊎_elim (λ own. absurd (passed own.1)) (λ later. (rest.declined cause spot).1 later.1) d,
  );
  accepted = (λ e. (passed, rest.accepted.0 e), λ a. rest.accepted.1 a.1);
}

-- the letter changes nothing
change_told_lem : (checks : Check) (words : List ℕ) → unless checks (success (length words ∷ [])) ≡ (change_told checks words).told
change_told_lem Pass words = refl
change_told_lem (Fail cause spot) words = refl

-- an insert and a delete
change_answered : (checks : Check) (rows : List Row) (words : List ℕ) → Agrees checks rows → AnsweredBy rows (change_told checks words).told
change_answered checks rows words agree = subst (AnsweredBy rows) (change_told_lem checks words) (answered checks rows (length words ∷ []) agree)

insert_line_answered : (t : List ℕ) (rule : Rule) → AnsweredBy (new_rule_rows 2 false t (under13 rule)) (insert_told t rule).told
unfolding insert_told
insert_line_answered t rule = change_answered _ _ (planned_words 2 false t rule) (insert_rows_lem 2 false t (under13 rule))

delete_line_answered : (t : List ℕ) (id : ℕ) → AnsweredBy (old_rule_rows 2 false t id) (delete_told t id).told
unfolding delete_told
delete_line_answered t id = change_answered _ _ (delete_words 2 t id) (delete_rows_lem 2 false t id)

looked_told_lem : (told : Told) → (looked_told told).told ≡ told
looked_told_lem told = pick (eqb told.number 0) (eqb (length told.values) 0)
  where
    pick : (b m : Bool) → (cond b (cond m (lettered 77 told) (lettered 65 told)) (lettered 82 told)).told ≡ told
    pick true true = refl
    pick true false = refl
    pick false m = refl

-- a good T, and one that is not
table_answered : (slots : ℕ) → AnsweredBy (row_at Shape ((slots ≡ 0) ⊎ (1024 < slots)) 0 ∷ []) (table_told slots).told
unfolding table_told
table_answered slots =
    subst (AnsweredBy (row_at Shape ((slots ≡ 0) ⊎ (1024 < slots)) 0 ∷ [])) (pick (leb 1 slots && leb slots 1024))
    (answered _ _ (slots ∷ []) (test_row Shape _ 0 (leb 1 slots && leb slots 1024) right (wrong (dec_lt slots 1) (dec_lt 1024 slots))))
  where
    both : (leb 1 slots && leb slots 1024 ≡ true) → (1 ≤ slots) × (slots ≤ 1024)
    both e = let p = (and_law (leb 1 slots) (leb slots 1024)).0 e in (leb-true 1 slots p.0, leb-true slots 1024 p.1)

    right : leb 1 slots && leb slots 1024 ≡ true → ((slots ≡ 0) ⊎ (1024 < slots)) → ⊥
    right e bad = let p = both e in ⊎_elim (λ z. omega (arith, p.0)) (λ l. omega (arith, p.1)) bad

    wrong : Dec (slots < 1) → Dec (1024 < slots) → leb 1 slots && leb slots 1024 ≡ false → (slots ≡ 0) ⊎ (1024 < slots)
    wrong (yes z) d e = inl (omega arith)
    wrong (no z) (yes l) e = inr l
    wrong (no z) (no l) e =
        absurd (true≢false (sym ((and_law (leb 1 slots) (leb slots 1024)).1 (le-leb 1 slots (omega arith), le-leb slots 1024 (omega arith))) ∙ e))

    pick : (b : Bool) → unless (cond b Pass (Fail Shape 0)) (success (slots ∷ [])) ≡ (cond b (lettered 78 (success (slots ∷ []))) (lettered 82 (refusal Shape 0))).told
    pick true = refl
    pick false = refl

-- document 01, script lines: 13 first, then the call's own checks in their order
pub line_by_rows : (t : List ℕ) (number : ℕ) (line : List ℕ) → AnsweredBy (line_rows t number line) (command_told t number (command_of line)).told
line_by_rows t number line = pick (command_of line) refl
  where
    first : (c : Command) → command_of line ≡ c → says c ≡ true → AnsweredBy (command_rows t c) (command_told t number c).told
        → AnsweredBy (row_at Line (WellFormed line → ⊥) number ∷ command_rows t c) (command_told t number c).told
    first c e said rest =
        passed_first (row_at Line (WellFormed line → ⊥) number) (command_rows t c) (command_told t number c).told (said_formed line (ap says e ∙ said)) rest

    pick : (c : Command) → command_of line ≡ c → AnsweredBy (row_at Line (WellFormed line → ⊥) number ∷ command_rows t c) (command_told t number c).told
    pick (Table new) e = first (Table new) e refl (table_answered new.slots)
    pick (Insert insertion) e =
        first (Insert insertion) e refl (insert_line_answered t (inserted_rule insertion))
    pick (Delete deletion) e = first (Delete deletion) e refl (delete_line_answered t deletion.id)
    pick (Lookup query) e =
        first (Lookup query) e refl
        (subst (AnsweredBy (command_rows t (Lookup query))) (sym (looked_told_lem _)) (lookup_by_rows 2 t (word (key_of query))))
    pick Malformed e =
        answered (Fail Line number) _ [] (test_row Line (WellFormed line → ⊥) number false (λ f. absurd (true≢false (sym f))) (λ f. (malformed_law line).0 e))
