-- End theorems on what each line prints, on every table: an accepted I and an accepted D their whole plan, and they change the table by the writes
-- printed; a T by check 1 of the table that it asks for; an L by its lookup.
use Rattle.std.specs.Prelude.{◌≡◌, refl, Bool, true, false, cond, ◌&&◌, ◌⊎◌, List, [], ◌∷◌, ◌++◌, map, ℕ, suc, ◌*◌, ◌/◌, ◌%◌, ◌<◌, leb, length}
use Rattle.std.proofs.Common.{sym, ap, ap₂, ◌∙◌, subst, inl, inr, ⊎_elim, append_assoc, arith, length-append}
use Rattle.std.proofs.lemmas.List.{length-map, length-replicate}
use Rattle.layout.specs.Write.{Write, copy, put, clear}
use Rattle.layout.specs.Class.{Sequence}
use Rattle.plan_words.specs.PlanWords.{write_of}
use Rattle.plan_words.specs.PlanWordsLaws.{write_of_word}
use Rattle.records.specs.Record.{word, put_slot}
use Rattle.records.specs.Checks.{shaped, check_shape}
use Rattle.records.specs.Entries.{vacant}
use Rattle.records.specs.Writes.{apply_words}
use Rattle.records.specs.Editions.{under13, rank_of, ranked}
use Rattle.records.proofs.Laws.{slot_checks_law, table_checks_law}
use Rattle.records.proofs.EntriesLaws.{shaped_slots}
use Rattle.records.specs.declared.Rule.{Rule}
use Rattle.records.specs.declared.Cause.TheVariants.{Shape}
use Rattle.records.specs.Verdict.{Pass, Fail}
use Rattle.lookups.specs.Lookup.{lookup_answer, hit_at, Case, refused_by, hit, miss}
use Rattle.lookups.proofs.LookupLaws.{lookup_cases, lookup_hit, lookup_miss, lookup_refused}
use Rattle.neighbours.specs.Neighbours.{insert_checks}
use Rattle.delete_plans.specs.Deletes.{delete_checks, delete_words, has_id, slot_of_id}
use Rattle.delete_plans.proofs.DeletesLaws.{delete_planned}
use Rattle.insert_plans.specs.Inserts.{planned_words}
use Rattle.insert_plans.specs.Insertable.{InsertableGiven, ReplacingGiven}
use Rattle.insert_plans.proofs.InsertableLaws.{insertable_law, insertable_fresh}
use Rattle.insert_plans.proofs.InsertsLaws.{planned_fresh, planned_replaced}
use Rattle.histories.proofs.SoundnessLaws.{replacement_word}
use Rattle.insert_plans.proofs.Demand3Laws.{shortest_words}
use Rattle.histories.specs.Histories.{empty_table}
use Rattle.script_lines.specs.Blocks.{Outcome}
use Rattle.script_commands.specs.Commands.{command_of, inserted_rule, key_of}
use Rattle.script_commands.specs.declared.NewTable.{NewTable}
use Rattle.script_commands.specs.declared.Insertion.{Insertion}
use Rattle.script_commands.specs.declared.Deletion.{Deletion}
use Rattle.script_commands.specs.declared.Query.{Query}
use Rattle.script_commands.specs.declared.Command.TheVariants.{Table, Insert, Delete, Lookup}
use Rattle.script_answers.specs.Answers.{table_bytes, printed_write, printed_writes, plan_bytes}
use Rattle.script_operations.specs.Outcomes.{outcome_of, refused, lookup_bytes, insert_outcome, delete_outcome, no_rule}
use Rattle.script_operations.proofs.OutcomesLaws.{bytes_refused}
use Rattle.script.specs.Script.{table_outcome, line_outcome}
use Rattle.script_transcripts.proofs.ChangesLaws.{Small, line_small}
use Rattle.script_transcripts.specs.LinesPrinted.{ended, Copied, copy_of, count_line, copy_line, put_in_line, emptying_line, InsertPrinted, unless_refused, LookupPrinted}

-- a write's line, without its newline
abbrev write_line : Write → List ℕ
write_line (copy from to) = copy_line (record { from = from; to = to })
write_line (put to) = put_in_line to
write_line (clear slot) = emptying_line slot

line_of : (x : Write) (rest : List ℕ) → printed_write x ++ rest ≡ write_line x ++ 10 ∷ rest
line_of (copy from to) rest = simp append_assoc
line_of (put to) rest = simp append_assoc
line_of (clear slot) rest = simp append_assoc

writes_lines : (words : List ℕ) → printed_writes words ≡ ended (map write_line (map write_of words))
unfolding printed_writes ended
writes_lines [] = refl
writes_lines (word ∷ words) = line_of (write_of word) (printed_writes words) ∙ ap (λ (rest : List ℕ). write_line (write_of word) ++ 10 ∷ rest) (writes_lines words)

plan_lines : (words : List ℕ) → plan_bytes words ≡ ended (count_line (length words) ∷ map write_line (map write_of words))
unfolding plan_bytes ended
plan_lines words = append_assoc (count_line (length words)) (10 ∷ []) (printed_writes words) ∙ ap (λ (rest : List ℕ). count_line (length words) ++ 10 ∷ rest) (writes_lines words)

-- the writes of the class are copies and then the put-in
Parted : List Write → Type 0
Parted xs = (copies : List Copied) × (slot : ℕ) × (xs ≡ map copy_of copies ++ put slot ∷ [])

sequence_parted : {S : Type 0} {empty : S} {occupied : S → Bool} {same misordered : S → S → Bool} {toward : ℕ → ℕ → Type 0} {new : S} {t : List S} {xs : List Write}
    → Sequence empty occupied same misordered toward new t xs → Parted xs
unfolding Parted
sequence_parted (Sequence.last to b f o) = ([], to, refl)
sequence_parted (Sequence.more from to a b d e f o s) =
    let rest = sequence_parted s in (record { from = from; to = to } ∷ rest.0, rest.1, ap (λ (x : List Write). copy from to ∷ x) rest.2)

parted_lines : (copies : List Copied) (slot : ℕ) → map write_line (map copy_of copies ++ put slot ∷ []) ≡ map copy_line copies ++ put_in_line slot ∷ []
parted_lines [] slot = refl
parted_lines (c ∷ copies) slot = ap (λ (x : List (List ℕ)). copy_line c ∷ x) (parted_lines copies slot)

parted_printed : (words : List ℕ) → Parted (map write_of words) → InsertPrinted words (plan_bytes words)
unfolding Parted
parted_printed words (copies, slot, e) =
    let count : length words ≡ suc (length copies) =
    omega (arith, length-map words write_of, ap length e, length-append (map copy_of copies) (put slot ∷ []), length-map copies copy_of) in
    record {
      copies = copies;
      slot = slot;
      plan = e;
      lines = plan_lines words ∙ ap₂ (λ (n : ℕ) (x : List (List ℕ)). ended (count_line n ∷ x)) count (ap (map write_line) e ∙ parted_lines copies slot);
    }

-- an accepted insert's words are copies and then the put-in, of a replacement the put-in alone
insert_parted : (t : List ℕ) (rule : Rule) → rule.action < 4294967296
    → InsertableGiven 2 false t (under13 rule) ⊎ ((s : ℕ) × ReplacingGiven 2 false t (under13 rule) s) → Parted (map write_of (planned_words 2 false t rule))
unfolding Parted ranked rank_of
insert_parted t rule small (inl p) =
    let is = planned_fresh 2 false t rule (insertable_fresh 2 false t rule p.insertable) in
    subst (λ (words : List ℕ). Parted (map write_of words)) (sym is) (⊎_elim sequence_parted sequence_parted (shortest_words 2 false t (under13 rule) small p).class)
insert_parted t rule small (inr (s, p)) =
    let is = planned_replaced 2 false t rule s p.replacing in
    let puts = replacement_word 2 false t rule small s p.replacing in
    subst (λ (words : List ℕ). Parted (map write_of words)) (sym is) ([], s, ap (λ (x : Write). x ∷ []) puts)

-- An accepted I line prints `P count`, a line for each write of its plan, in order, and makes these writes.
pub insert_printed : (t : List ℕ) (number : ℕ) (line : List ℕ) (insertion : Insertion) → command_of line ≡ Insert insertion
    → insert_checks 2 false t (under13 (inserted_rule insertion)) ≡ Pass
    → InsertPrinted (planned_words 2 false t (inserted_rule insertion)) (line_outcome t number line).printed
    × ((line_outcome t number line).table ≡ apply_words 2 t (inserted_rule insertion) (planned_words 2 false t (inserted_rule insertion)))
unfolding insert_outcome ranked rank_of
insert_printed t number line insertion e pass =
    let rule = inserted_rule insertion in
    let small : Small (Insert insertion) = subst Small e (line_small line) in
    let parted = insert_parted t rule small ((insertable_law 2 false t (under13 rule)).0 pass) in
    rw (e, pass) (parted_printed (planned_words 2 false t rule) parted, refl)

-- An accepted D line prints `P 1` and `E slot`, the slot of the rule to delete, and empties that slot.
pub delete_printed : (t : List ℕ) (number : ℕ) (line : List ℕ) (deletion : Deletion) → command_of line ≡ Delete deletion → delete_checks 2 false t deletion.id ≡ Pass
    → (slot : ℕ) × (has_id 2 t deletion.id slot ≡ true) × ((line_outcome t number line).printed ≡ ended (count_line 1 ∷ emptying_line slot ∷ []))
    × ((line_outcome t number line).table ≡ put_slot 2 t slot (vacant 2))
unfolding delete_outcome
delete_printed t number line deletion e pass =
    let planned = delete_planned 2 false t deletion.id pass in
    let shape = shaped_slots 2 t ((slot_checks_law 2 t).0 ((table_checks_law 2 false t).0 planned.table).0).0 in
    let slot = slot_of_id 2 t deletion.id in
    let back = write_of_word (clear slot) (omega (arith, planned.exists, shape.1)) in
    let lines = plan_lines (delete_words 2 t deletion.id) ∙ ap (λ (x : Write). ended (count_line 1 ∷ write_line x ∷ [])) back in
    rw (e, pass) (slot, planned.holds, lines, planned.after no_rule)

-- document 01, 1 SHAPE: a T makes a table exactly where the empty table of so many slots passes check 1
good_shape : (slots : ℕ) → leb 1 slots && leb slots 1024 ≡ shaped 2 (empty_table 2 slots)
unfolding shaped
good_shape slots =
    let size : length (empty_table 2 slots) ≡ slots * 6 = length-replicate (slots * 6) 0 in
    let whole : length (empty_table 2 slots) % 6 ≡ 0 = omega (arith, size) in
    let count : length (empty_table 2 slots) / 6 ≡ slots = omega (arith, size) in
    rw (whole, count)

-- A T line makes the empty table and prints `N slots` where that table passes check 1; else it is refused as the check says.
pub table_printed : (t : List ℕ) (number : ℕ) (line : List ℕ) (new : NewTable) → command_of line ≡ Table new
    → line_outcome t number line ≡ unless_refused t (check_shape 2 (empty_table 2 new.slots)) (outcome_of (empty_table 2 new.slots) (table_bytes new.slots))
unfolding table_outcome check_shape
table_printed t number line new e = rw (e, good_shape new.slots) (by (shaped 2 (empty_table 2 new.slots)))
  where
    made : Outcome (List ℕ)
    made = outcome_of (empty_table 2 new.slots) (table_bytes new.slots)

    by : (b : Bool) → cond b made (refused t 1 0) ≡ unless_refused t (cond b Pass (Fail Shape 0)) made
    by true = refl
    by false = refl

-- An L line keeps the table and prints, on every table: the refusal of checks 1 and 2; the first slot that matches, its id and action; or a miss.
pub lookup_printed : (t : List ℕ) (number : ℕ) (line : List ℕ) (query : Query) → command_of line ≡ Lookup query
    → ((line_outcome t number line).table ≡ t) × LookupPrinted t (word (key_of query)) (line_outcome t number line).printed
unfolding hit_at
lookup_printed t number line query e = rw e (refl, by (lookup_cases 2 t (word (key_of query))))
  where
    by : Case 2 t (word (key_of query)) → LookupPrinted t (word (key_of query)) (lookup_bytes (lookup_answer 2 t (word (key_of query))))
    by (refused_by cause spot f) =
        subst (LookupPrinted t (word (key_of query))) (bytes_refused cause spot ∙ ap lookup_bytes (sym (lookup_refused 2 t (word (key_of query)) cause spot f)))
        (LookupPrinted.declined cause spot f)
    by (hit i f g) =
        subst (LookupPrinted t (word (key_of query))) (ap lookup_bytes (sym (lookup_hit 2 t (word (key_of query)) i f g))) (LookupPrinted.found i f g)
    by (miss f g) = subst (LookupPrinted t (word (key_of query))) (ap lookup_bytes (sym (lookup_miss 2 t (word (key_of query)) f g))) (LookupPrinted.missed f g)
