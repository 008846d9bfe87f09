-- Laws by which the code meets the definitions of a line: what was done to the table stands at the memory's start, and the words past it stay.
-- A table of at most 1,024 slots has room there.
use Rattle.std.specs.Prelude.{◌≡◌, refl, true, false, ◌&&◌, List, ◌++◌, ℕ, ◌+◌, ◌*◌, ◌≤◌, ◌<◌, min, leb, length, get_or, set, drop, replicate}
use Rattle.std.proofs.Common.{sym, ap, ap₂, ◌∙◌, subst, arith, take-append-drop, take_all, length-take-le, get_or-set_same, get_or-set_other, ext_get_or, leb-true}
use Rattle.std.proofs.Math.Decide.{ℕ_discrete, dec_le}
use Rattle.std.proofs.lemmas.List.{length-replicate, get_or-replicate}
use Rattle.search.specs.SearchLaws.{and_right}
use Rattle.histories.specs.Histories.{empty_table}
use Rattle.script_lines.specs.Blocks.{Outcome}
use Rattle.script_printing.specs.Printing.{Shown}
use Rattle.script_answers.specs.Answers.{table_bytes, refusal_bytes}
use Rattle.script_operations.specs.declared.LineAnswer.{LineAnswer}
use Rattle.script_operations.specs.Outcomes.{refused, Changed}
use Rattle.script.specs.declared.Ran.{Ran}
use Rattle.script.specs.Script.{table_outcome, table_in, Left}

-- words set to zero one after the other
pub zero_more : (words : List ℕ) (at : ℕ) → at < length words → ((k : ℕ) → k < at → get_or words k 0 ≡ 0)
    → (k : ℕ) → k < at + 1 → get_or (set words at 0) k 0 ≡ 0
zero_more words at h below k l = pick (ℕ_discrete k at)
  where
    pick : Dec (k ≡ at) → get_or (set words at 0) k 0 ≡ 0
    pick (yes e) = ap (λ (n : ℕ). get_or (set words at 0) n 0) e ∙ get_or-set_same words at 0 0 h
    pick (no e) = get_or-set_other words at k 0 0 e ∙ below k (omega arith)

pub zeros : (words : List ℕ) (n : ℕ) → length words ≡ n → ((k : ℕ) → k < n → get_or words k 0 ≡ 0) → words ≡ replicate n 0
zeros words n e below =
    ext_get_or 0 words (replicate n 0) (e ∙ sym (length-replicate n 0)) (λ k h. below k (omega (arith, e)) ∙ sym (get_or-replicate n k 0 0 (omega (arith, e))))

-- the table in a memory that has room for the largest
table_words : (memory : List ℕ) (present : ℕ) → length memory ≡ 6144 → present ≤ 1024 → length (table_in memory present) ≡ present * 6
table_words memory present n h = length-take-le (present * 6) memory (omega arith)

-- a change of the table in its place, and no change
module _ (memory : List ℕ) (present : ℕ) (n : length memory ≡ 6144) (h : present ≤ 1024) {told : Outcome (List ℕ)} {count : ℕ} {answer : LineAnswer} {out out' : List ℕ} where
  pub left_changed : {after : List ℕ} → length after ≡ present * 6 → Changed told count after out out'
      → Left told (record { slots = present; length = count; answer = answer }) memory (after ++ drop (present * 6) memory) out out'
  left_changed {after} e c = record {
    slots = sym (ap length (sym c.table) ∙ e);
    table = ap₂ (λ (a : List ℕ) (k : ℕ). a ++ drop k memory) c.table (sym (ap length (sym c.table) ∙ e));
    shown = c.shown;
  }

  pub left_kept : told.table ≡ table_in memory present → Shown out told.printed count out'
      → Left told (record { slots = present; length = count; answer = answer }) memory memory out out'
  left_kept e s =
      let size = ap length e ∙ table_words memory present n h in
      record {
        slots = sym size;
        table = sym (take-append-drop (present * 6) memory) ∙ ap₂ (λ (a : List ℕ) (k : ℕ). a ++ drop k memory) (sym e) (sym size);
        shown = s;
      }

-- no more slots than the memory has room for
pub table_present : (memory : List ℕ) (slots : ℕ) → length memory ≡ 6144 → table_in memory (min slots 1024) ≡ table_in memory slots
table_present memory slots n = pick (dec_le slots 1024)
  where
    pick : Dec (slots ≤ 1024) → table_in memory (min slots 1024) ≡ table_in memory slots
    pick (yes h) = let e : min slots 1024 ≡ slots = omega arith in ap (table_in memory) e
    pick (no h) =
        let e : min slots 1024 ≡ 1024 = omega arith in
        ap (table_in memory) e ∙ (take_all 6144 memory (omega arith) ∙ sym (take_all (slots * 6) memory (omega arith)))

pub slots_present : (memory : List ℕ) (slots present : ℕ) → length memory ≡ 6144 → present ≡ min slots 1024 → present * 6 ≡ length (table_in memory slots)
slots_present memory slots present n e =
    ap (λ (k : ℕ). k * 6) e ∙ sym (ap length (sym (table_present memory slots n)) ∙ table_words memory (min slots 1024) n (omega arith))

-- a T line
pub table_made : (memory : List ℕ) (present slots : ℕ) → length memory ≡ 6144 → present ≤ 1024 → {count : ℕ} {answer : LineAnswer} {out out' zeroed : List ℕ}
    → leb 1 slots && leb slots 1024 ≡ true → zeroed ≡ empty_table 2 slots → Shown out (table_bytes slots) count out'
    → Left (table_outcome (table_in memory present) slots) (record { slots = slots; length = count; answer = answer }) memory (zeroed ++ drop (slots * 6) memory) out out'
unfolding table_outcome
table_made memory present slots n h {count} {answer} {out} {out'} e f s =
    let size : length (empty_table 2 slots) ≡ slots * 6 = length-replicate (slots * 6) 0 in
    rw (e, f)
    (record { slots = sym size; table = ap (λ (k : ℕ). empty_table 2 slots ++ drop k memory) (sym size); shown = s })

pub table_refused : (memory : List ℕ) (present slots : ℕ) → length memory ≡ 6144 → present ≤ 1024 → {count : ℕ} {answer : LineAnswer} {out out' : List ℕ}
    → leb 1 slots && leb slots 1024 ≡ false → Shown out (refusal_bytes 1 0) count out'
    → Left (table_outcome (table_in memory present) slots) (record { slots = present; length = count; answer = answer }) memory memory out out'
unfolding table_outcome
table_refused memory present slots n h e s = rw e (left_kept memory present n h refl s)

-- a malformed line
pub left_malformed : (memory : List ℕ) (present number : ℕ) → length memory ≡ 6144 → present ≤ 1024 → (ran : Ran) {out out' : List ℕ}
    → ran.slots ≡ present → Shown out (refusal_bytes 13 number) ran.length out'
    → Left (refused (table_in memory present) 13 number) ran memory memory out out'
left_malformed memory present number n h ran {out} {out'} e s =
    let kept = left_kept memory present n h {told = refused (table_in memory present) 13 number} {answer = ran.answer} refl s in
    record { slots = ap (λ (k : ℕ). k * 6) e ∙ kept.slots; table = kept.table; shown = s }

-- the same of what is left
pub left_is : {a b : Outcome (List ℕ)} {ran : Ran} {memory memory' out out' : List ℕ} → a ≡ b → Left a ran memory memory' out out' → Left b ran memory memory' out out'
left_is {ran = ran} {memory} {memory'} {out} {out'} e l = subst (λ (x : Outcome (List ℕ)). Left x ran memory memory' out out') e l

-- the slots of a good T fit into the memory
pub slots_fit : (memory : List ℕ) (slots : ℕ) → length memory ≡ 6144 → leb 1 slots && leb slots 1024 ≡ true → slots * 6 ≤ length memory
slots_fit memory slots n e = let h = leb-true slots 1024 (and_right (leb 1 slots) (leb slots 1024) e) in omega arith
