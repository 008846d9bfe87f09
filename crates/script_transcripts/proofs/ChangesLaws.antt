-- End theorems: demand 2 of scripts: every table of a script is one without slots, before a good T, or one reached by the changes accepted since the last
-- good T; so an L line prints id and action of the highest-priority match among the rules inserted and not since deleted, or a miss.
use Rattle.std.specs.Prelude.{◌≡◌, Bool, true, cond, ◌&&◌, ◌⊎◌, List, [], ◌∷◌, ℕ, ◌<◌, eqb, leb, get_or, drop}
use Rattle.std.proofs.Math.Path.{refl, sym, subst}
use Rattle.std.proofs.Common.{ap, ap₂, ◌∙◌, true≢false, arith, leb-true}
use Rattle.std.proofs.Math.Bool.{false}
use Rattle.std.proofs.Math.Logic.◌⊎◌.{inl, inr}
use Rattle.std.proofs.Math.Option.{Option, none, some}
use Rattle.std.proofs.Math.ListN.{length}
use Rattle.search.specs.SearchLaws.{and_left, and_right}
use Rattle.records.specs.Record.{word, slot_words, ident, action}
use Rattle.records.specs.Checks.{Told, passes, check_shape, shaped, slot_checks, table_checks}
use Rattle.records.proofs.Laws.{cause_not_zero}
use Rattle.records.specs.Writes.{apply_words}
use Rattle.records.specs.Editions.{under13, rank_of, ranked}
use Rattle.records.specs.declared.Rule.{Rule}
use Rattle.records.specs.declared.Cause.TheVariants.{Shape}
use Rattle.records.specs.Verdict.{Check}
use Rattle.records.specs.Verdict.{Pass, Fail}
use Rattle.buffers.proofs.BuffersLaws.{buffer_written}
use Rattle.lookups.specs.Lookup.{lookup_answer, hit_at, Case, refused_by, hit, miss}
use Rattle.lookups.proofs.LookupLaws.{lookup_cases, lookup_hit, lookup_miss, lookup_refused}
use Rattle.neighbours.specs.Neighbours.{insert_checks}
use Rattle.delete_plans.specs.Deletes.{delete_checks, delete_words}
use Rattle.insert_plans.specs.Inserts.{planned_words}
use Rattle.histories.specs.RuleSet.{Change, delete, rule_set, highest_match, rule_reply}
use Rattle.histories.specs.Inserted.{insert_changes}
use Rattle.histories.specs.Histories.{Reached, empty_table}
use Rattle.histories.proofs.Demand2Laws.{demand_2_insert, demand_2_delete, carried_whole}
use Rattle.histories.proofs.HistoriesLaws.{reached_sound, reached_lookup, reached_insert, reached_delete}
use Rattle.script_text.specs.Parts.{parts}
use Rattle.script_text.specs.Decimal.{decimal}
use Rattle.script_lines.specs.Lines.{next_number}
use Rattle.script_lines.specs.Blocks.{Outcome, answered}
use Rattle.script_fields.specs.Fields.{is_number, is_pattern, is_key, symbol_words, value_bit, mask_bit}
use Rattle.script_fields.proofs.FieldsLaws.{number_is}
use Rattle.script_commands.specs.Commands.{command_of, inserted_rule, key_of, table_command, insert_command, delete_command, lookup_command, short_command}
use Rattle.script_commands.specs.Commands.{long_command, letter_of, of_fields}
use Rattle.script_commands.specs.declared.Query.{Query}
use Rattle.script_commands.specs.declared.Command.{Command}
use Rattle.script_commands.specs.declared.Command.TheVariants.{Table, Insert, Delete, Lookup, Malformed}
use Rattle.script_answers.specs.Answers.{table_bytes, plan_bytes, hit_bytes, miss_bytes, refusal_bytes}
use Rattle.script_operations.specs.Outcomes.{refused, change_outcome, lookup_bytes, insert_outcome, delete_outcome, no_rule}
use Rattle.script.specs.Script.{table_outcome, command_outcome, line_outcome}
use Rattle.script_transcripts.specs.Changes.{history_of, history_after, Since, AnswerOf}

-- an insert that a line tells has an action of 32 bits
abbrev pub Small : Command → Type 0
Small (Table new) = Unit {0}
Small (Insert insertion) = insertion.action < 4294967296
Small (Delete deletion) = Unit {0}
Small (Lookup query) = Unit {0}
Small Malformed = Unit {0}

small_if : (b : Bool) (c d : Command) → (b ≡ true → Small c) → Small d → Small (cond b c d)
small_if true c d f s = f refl
small_if false c d f s = s

insert_small : (id priority pattern number : List ℕ) → Small (insert_command id priority pattern number)
unfolding insert_command
insert_small id priority pattern number =
    small_if (is_number id && (is_number priority && (is_pattern pattern && is_number number)))
    (Insert (record { id = decimal id; priority = decimal priority; value = symbol_words value_bit pattern; mask = symbol_words mask_bit pattern; action = decimal number }))
    Malformed (λ e.
    let rest = and_right (is_number id) (is_number priority && (is_pattern pattern && is_number number)) e in
    let last = and_right (is_number priority) (is_pattern pattern && is_number number) rest in
    let n = number_is number (and_right (is_pattern pattern) (is_number number) last) in
    omega (arith, n.0, n.1)) tt

short_small : (letter : ℕ) (field : List ℕ) → Small (short_command letter field)
unfolding short_command table_command delete_command lookup_command
short_small letter field =
    small_if (eqb letter 84) (table_command field) others (λ e. small_if (is_number field) (Table (record { slots = decimal field })) Malformed (λ g. tt) tt)
    (small_if (eqb letter 68) (delete_command field) last (λ e. small_if (is_number field) (Delete (record { id = decimal field })) Malformed (λ g. tt) tt)
    (small_if (eqb letter 76) (lookup_command field) Malformed
    (λ e. small_if (is_key field) (Lookup (record { key = symbol_words value_bit field })) Malformed (λ g. tt) tt) tt))
  where
    last : Command
    last = cond (eqb letter 76) (lookup_command field) Malformed

    others : Command
    others = cond (eqb letter 68) (delete_command field) last

fields_small : (fields : List (List ℕ)) → Small (of_fields fields)
unfolding long_command
fields_small [] = tt
fields_small (l ∷ []) = tt
fields_small (l ∷ field ∷ []) = short_small (letter_of l) field
fields_small (l ∷ a ∷ b ∷ []) = tt
fields_small (l ∷ a ∷ b ∷ c ∷ []) = tt
fields_small (l ∷ id ∷ priority ∷ pattern ∷ number ∷ []) =
    small_if (eqb (letter_of l) 73) (insert_command id priority pattern number) Malformed (λ e. insert_small id priority pattern number) tt
fields_small (l ∷ a ∷ b ∷ c ∷ d ∷ e ∷ more) = tt

pub line_small : (line : List ℕ) → Small (command_of line)
unfolding command_of
line_small line = small_if (leb (length line) 256) (of_fields (parts 32 line)) Malformed (λ e. fields_small (parts 32 line)) tt

-- a table without slots refuses every change with 1
none_inserts : (rule : Rule) → insert_checks 2 false [] (under13 rule) ≡ Fail Shape 0
unfolding insert_checks table_checks slot_checks check_shape shaped
none_inserts rule = refl

none_deletes : (id : ℕ) → delete_checks 2 false [] id ≡ Fail Shape 0
unfolding delete_checks table_checks slot_checks check_shape shaped
none_deletes id = refl

pub insert_none : (rule : Rule) → insert_outcome [] rule ≡ refused [] 1 0
unfolding insert_outcome
insert_none rule = rw (none_inserts rule)

pub delete_none : (id : ℕ) → delete_outcome [] id ≡ refused [] 1 0
unfolding delete_outcome
delete_none id = rw (none_deletes id)

-- one accepted change more
module _ (history : List Change) (t : List ℕ) (reached : Reached 2 false history t) where
  -- the plan's own words are buffer enough, and as many calls as it has carry it out
  insert_reached : (rule : Rule) → rule.action < 4294967296 → (x : Check) → insert_checks 2 false t (under13 rule) ≡ x
      → Reached 2 false (cond (passes (insert_checks 2 false t (under13 rule))) (insert_changes 2 false t rule history) history) (insert_outcome t rule).table
  unfolding insert_outcome ranked rank_of
  insert_reached rule small (Fail cause spot) e = rw e reached
  insert_reached rule small Pass e =
      let words = planned_words 2 false t rule in
      let count = length words in
      let accepted = sym (buffer_written words words refl e (omega arith)).0 in
      let after = reached_insert reached (under13 rule) small words count accepted in
      let made = carried_whole (demand_2_insert 2 false t (under13 rule) words count small accepted) in
      let there : Reached 2 false (insert_changes 2 false t rule history) (apply_words 2 t rule words) = subst (Reached 2 false (insert_changes 2 false t rule history)) made after in
      rw e there

  delete_reached : (id : ℕ) (x : Check) → delete_checks 2 false t id ≡ x
      → Reached 2 false (cond (passes (delete_checks 2 false t id)) (delete id ∷ history) history) (delete_outcome t id).table
  unfolding delete_outcome ranked rank_of
  delete_reached id (Fail cause spot) e = rw e reached
  delete_reached id Pass e =
      let words = delete_words 2 t id in
      let accepted = sym (buffer_written words words refl e (omega arith)).0 in
      let after = reached_delete reached id words 1 accepted (under13 no_rule) in
      let made = carried_whole (demand_2_delete 2 false t id words 1 (under13 no_rule) accepted) in
      let there : Reached 2 false (delete id ∷ history) (apply_words 2 t no_rule words) = subst (Reached 2 false (delete id ∷ history)) made after in
      rw e there

table_since : (history : List Change) (t : List ℕ) → Since history t → (slots : ℕ) (b : Bool) → leb 1 slots && leb slots 1024 ≡ b
    → Since (cond (leb 1 slots && leb slots 1024) [] history) (table_outcome t slots).table
unfolding table_outcome
table_since history t since slots true e =
    rw e
    (inr (Reached.start slots (leb-true 1 slots (and_left (leb 1 slots) (leb slots 1024) e)) (leb-true slots 1024 (and_right (leb 1 slots) (leb slots 1024) e))))
table_since history t since slots false e = rw e since

insert_since : (history : List Change) (t : List ℕ) → Since history t → (rule : Rule) → rule.action < 4294967296
    → Since (cond (passes (insert_checks 2 false t (under13 rule))) (insert_changes 2 false t rule history) history) (insert_outcome t rule).table
insert_since history t (inl (e, f)) rule small =
    subst (λ (u : List ℕ). Since (cond (passes (insert_checks 2 false u (under13 rule))) (insert_changes 2 false u rule history) history) (insert_outcome u rule).table) (sym e)
    (rw (none_inserts rule) (inl (ap (λ (x : Outcome (List ℕ)). x.table) (insert_none rule), f)))
insert_since history t (inr reached) rule small = inr (insert_reached history t reached rule small (insert_checks 2 false t (under13 rule)) refl)

delete_since : (history : List Change) (t : List ℕ) → Since history t → (id : ℕ)
    → Since (cond (passes (delete_checks 2 false t id)) (delete id ∷ history) history) (delete_outcome t id).table
delete_since history t (inl (e, f)) id =
    subst (λ (u : List ℕ). Since (cond (passes (delete_checks 2 false u id)) (delete id ∷ history) history) (delete_outcome u id).table) (sym e)
    (rw (none_deletes id) (inl (ap (λ (x : Outcome (List ℕ)). x.table) (delete_none id), f)))
delete_since history t (inr reached) id = inr (delete_reached history t reached id (delete_checks 2 false t id) refl)

command_since : (history : List Change) (t : List ℕ) → Since history t → (number : ℕ) (c : Command) → Small c
    → Since (history_after t history c) (command_outcome t number c).table
command_since history t since number (Table new) s = table_since history t since new.slots (leb 1 new.slots && leb new.slots 1024) refl
command_since history t since number (Insert insertion) s = insert_since history t since (inserted_rule insertion) s
command_since history t since number (Delete deletion) s = delete_since history t since deletion.id
command_since history t since number (Lookup query) s = since
command_since history t since number Malformed s = since

-- a line keeps it
pub line_since : (history : List Change) (t : List ℕ) (number : ℕ) (line : List ℕ) → Since history t
    → Since (history_after t history (command_of line)) (line_outcome t number line).table
line_since history t number line since = command_since history t since number (command_of line) (line_small line)

-- and so do lines
pub lines_since : (lines : List (List ℕ)) (history : List Change) (t : List ℕ) (number : ℕ) → Since history t
    → Since (history_of t number history lines) (answered line_outcome t number lines).table
unfolding history_of answered
lines_since [] history t number since = since
lines_since (line ∷ lines) history t number since =
    lines_since lines (history_after t history (command_of line)) (line_outcome t number line).table (next_number number) (line_since history t number line since)

-- Every table of a script, after any of its first lines: without slots, or reached by the changes accepted since the last good T.
pub script_since : (lines : List (List ℕ)) → Since (history_of [] 1 [] lines) (answered line_outcome [] 1 lines).table
script_since lines = lines_since lines [] [] 1 (inl (refl, refl))

-- so once there is a table it passes checks 1 to 4: 2, 3 and 4 are never printed, and 1 only before a good T or for a T
pub script_sound : (lines : List (List ℕ)) → ((answered line_outcome [] 1 lines).table ≡ []) ⊎ (table_checks 2 false (answered line_outcome [] 1 lines).table ≡ Pass)
script_sound lines = pick (script_since lines)
  where
    pick : Since (history_of [] 1 [] lines) (answered line_outcome [] 1 lines).table
        → ((answered line_outcome [] 1 lines).table ≡ []) ⊎ (table_checks 2 false (answered line_outcome [] 1 lines).table ≡ Pass)
    pick (inl (e, f)) = inl e
    pick (inr reached) = inr (reached_sound reached)

answer_found : (o : Option Rule) (slot id number : ℕ) → id ∷ number ∷ [] ≡ rule_reply o → AnswerOf o (hit_bytes slot id number)
answer_found none slot id number e = let n : ◌≡◌ {A = ℕ} 2 0 = ap length e in absurd (omega arith)
answer_found (some rule) slot id number e =
    (slot, ap₂ (hit_bytes slot) (ap (λ (l : List ℕ). get_or l 0 0) e) (ap (λ (l : List ℕ). get_or l 1 0) e))

answer_missed : (o : Option Rule) → [] ≡ rule_reply o → AnswerOf o miss_bytes
answer_missed none e = refl
answer_missed (some rule) e = let n : ◌≡◌ {A = ℕ} 0 2 = ap length e in absurd (omega arith)

-- Demand 2 of scripts: on a table reached by changes an L line keeps the table and prints id and action of the highest-priority match among
-- the rules inserted and not since deleted, or a miss.
pub lookup_answered : (history : List Change) (t : List ℕ) → Reached 2 false history t → (key : List ℕ)
    → AnswerOf (highest_match 2 (word key) (rule_set history)) (lookup_bytes (lookup_answer 2 t (word key)))
unfolding hit_at
lookup_answered history t reached key = pick (lookup_cases 2 t (word key)) (reached_lookup reached (word key))
  where
    o : Option Rule
    o = highest_match 2 (word key) (rule_set history)

    pick : Case 2 t (word key) → ((lookup_answer 2 t (word key)).number ≡ 0) × (drop 1 (lookup_answer 2 t (word key)).values ≡ rule_reply o)
        → AnswerOf o (lookup_bytes (lookup_answer 2 t (word key)))
    pick (refused_by cause spot e) (n, r) =
        absurd (true≢false (ap (λ (k : ℕ). eqb k 0) (sym n ∙ ap (λ (told : Told). told.number) (lookup_refused 2 t (word key) cause spot e)) ∙ cause_not_zero cause))
    pick (hit i e f) (n, r) =
        let told = lookup_hit 2 t (word key) i e f in
        subst (λ (x : Told). AnswerOf o (lookup_bytes x)) (sym told)
        (answer_found o i (ident 2 (slot_words 2 t i)) (action 2 (slot_words 2 t i)) (ap (λ (x : Told). drop 1 x.values) (sym told) ∙ r))
    pick (miss e f) (n, r) =
        let told = lookup_miss 2 t (word key) e f in
        subst (λ (x : Told). AnswerOf o (lookup_bytes x)) (sym told) (answer_missed o (ap (λ (x : Told). drop 1 x.values) (sym told) ∙ r))

-- before a good T an L line is refused with 1
pub lookup_none : (key : List ℕ) → lookup_bytes (lookup_answer 2 [] (word key)) ≡ refusal_bytes 1 0
unfolding lookup_answer slot_checks check_shape shaped
lookup_none key = refl

-- an L line after lines of a script
pub script_lookup : (lines : List (List ℕ)) (number : ℕ) (line : List ℕ) (query : Query) → command_of line ≡ Lookup query
    → (((answered line_outcome [] 1 lines).table ≡ []) × ((line_outcome (answered line_outcome [] 1 lines).table number line).printed ≡ refusal_bytes 1 0))
    ⊎ AnswerOf (highest_match 2 (word (key_of query)) (rule_set (history_of [] 1 [] lines))) (line_outcome (answered line_outcome [] 1 lines).table number line).printed
script_lookup lines number line query e = pick (script_since lines)
  where
    t : List ℕ
    t = (answered line_outcome [] 1 lines).table

    same : (line_outcome t number line).printed ≡ lookup_bytes (lookup_answer 2 t (word (key_of query)))
    same = ap (λ (c : Command). (command_outcome t number c).printed) e

    pick : Since (history_of [] 1 [] lines) t
        → ((t ≡ []) × ((line_outcome t number line).printed ≡ refusal_bytes 1 0))
        ⊎ AnswerOf (highest_match 2 (word (key_of query)) (rule_set (history_of [] 1 [] lines))) (line_outcome t number line).printed
    pick (inl (f, g)) = inl (f, same ∙ (ap (λ (u : List ℕ). lookup_bytes (lookup_answer 2 u (word (key_of query)))) f ∙ lookup_none (key_of query)))
    pick (inr reached) =
        inr
        (subst (AnswerOf (highest_match 2 (word (key_of query)) (rule_set (history_of [] 1 [] lines)))) (sym same)
        (lookup_answered (history_of [] 1 [] lines) t reached (key_of query)))

-- A line that is declined leaves the table as it was: one whose answer starts with R.
plan_first : (words : List ℕ) → get_or (plan_bytes words) 0 0 ≡ 82 → ⊥
unfolding plan_bytes
plan_first words e = let n : ◌≡◌ {A = ℕ} 80 82 = e in omega arith

change_kept : (t : List ℕ) (x : Check) (words after : List ℕ) → get_or (change_outcome t x words after).printed 0 0 ≡ 82 → (change_outcome t x words after).table ≡ t
change_kept t Pass words after e = absurd (plan_first words e)
change_kept t (Fail cause spot) words after e = refl

table_kept : (t : List ℕ) (slots : ℕ) → get_or (table_outcome t slots).printed 0 0 ≡ 82 → (table_outcome t slots).table ≡ t
unfolding table_outcome
table_kept t slots = by (leb 1 slots && leb slots 1024)
  where
    told : Bool → Outcome (List ℕ)
    told b = cond b (record { table = empty_table 2 slots; printed = table_bytes slots }) (refused t 1 0)

    by : (b : Bool) → get_or (told b).printed 0 0 ≡ 82 → (told b).table ≡ t
    by true e = let n : ◌≡◌ {A = ℕ} 78 82 = e in absurd (omega arith)
    by false e = refl

command_kept : (t : List ℕ) (number : ℕ) (c : Command) → get_or (command_outcome t number c).printed 0 0 ≡ 82 → (command_outcome t number c).table ≡ t
unfolding insert_outcome delete_outcome
command_kept t number (Table new) e = table_kept t new.slots e
command_kept t number (Insert insertion) e =
    let rule = inserted_rule insertion in
    change_kept t (insert_checks 2 false t (under13 rule)) (planned_words 2 false t rule) (apply_words 2 t rule (planned_words 2 false t rule)) e
command_kept t number (Delete deletion) e =
    let id = deletion.id in
    change_kept t (delete_checks 2 false t id) (delete_words 2 t id) (apply_words 2 t no_rule (delete_words 2 t id)) e
command_kept t number (Lookup query) e = refl
command_kept t number Malformed e = refl

pub refused_kept : (t : List ℕ) (number : ℕ) (line : List ℕ) → get_or (line_outcome t number line).printed 0 0 ≡ 82 → (line_outcome t number line).table ≡ t
refused_kept t number line e = command_kept t number (command_of line) e
