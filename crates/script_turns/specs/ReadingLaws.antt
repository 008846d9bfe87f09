-- Laws by which the code meets the definitions of a turn: a line that is run is handed out, and one that is not complete is held.
-- What a call prints comes after what was printed before it.
use Rattle.std.specs.Prelude.{◌≡◌, refl, Bool, true, false, List, [], ◌∷◌, ◌++◌, ℕ, zero, suc, ◌*◌, ◌≤◌, min, length, take, drop}
use Rattle.std.proofs.Common.{sym, ap, ◌∙◌, subst, arith, take_at, take_all}
use Rattle.std.proofs.Math.Decide.{dec_le}
use Rattle.script_text.specs.Parts.{first_part}
use Rattle.script_lines.specs.Lines.{next_number}
use Rattle.script_lines.specs.Held.{taken_of, held_line, standing}
use Rattle.script_lines.specs.declared.Taken.{Taken}
use Rattle.script_lines.specs.Blocks.{Reading, taking, handed_out, finished}
use Rattle.script_printing.specs.Printing.{Shown}
use Rattle.script.specs.declared.Ran.{Ran}
use Rattle.script.specs.Script.{line_outcome, table_in, Left}
use Rattle.script_turns.specs.declared.Place.{Place}
use Rattle.script_turns.specs.declared.Turn.{Turn}
use Rattle.script_turns.specs.Reading.{reading_of, turn_of, Turned}

-- the table afterwards is that in the memory
pub turned_table : {after : Reading (List ℕ)} {next : ℕ} {turn : Turn} {memory memory' line' out out' : List ℕ}
    → Turned after next turn memory memory' line' out out' → table_in memory' turn.place.slots ≡ after.table
turned_table {after} {turn = turn} {memory} t =
    ap (λ (m : List ℕ). take (turn.place.slots * 6) m) t.table
    ∙ take_at after.table (drop (length after.table) memory) (turn.place.slots * 6) (sym t.slots)

-- no more bytes are held than the line has
held_bytes : (line : List ℕ) (held : ℕ) → take (min held (length line)) line ≡ take held line
held_bytes line held = pick (dec_le held (length line))
  where
    pick : Dec (held ≤ length line) → take (min held (length line)) line ≡ take held line
    pick (yes h) = let e : min held (length line) ≡ held = omega arith in ap (λ (n : ℕ). take n line) e
    pick (no h) = take_all (min held (length line)) line (omega arith) ∙ sym (take_all held line (omega arith))

-- the line held is run
pub turned_run : (memory line : List ℕ) (place : Place) (next count number : ℕ) (ran : Ran) {memory' out out' : List ℕ}
    → count ≡ min place.held (length line) → number ≡ next_number place.number
    → Left (line_outcome (table_in memory place.slots) place.number (take count line)) ran memory memory' out out'
    → Turned (handed_out line_outcome (reading_of memory line place)) next
    (record { place = record { slots = ran.slots; held = 0; number = number }; next = next; length = ran.length }) memory memory' line out out'
turned_run memory line place next count number ran {memory'} {out} {out'} e f left =
    let same : take count line ≡ take place.held line = ap (λ (n : ℕ). take n line) e ∙ held_bytes line place.held in
    let l = subst (λ (x : List ℕ). Left (line_outcome (table_in memory place.slots) place.number x) ran memory memory' out out') same left in
    record { slots = l.slots; table = l.table; line = refl; held = refl; number = f; on = refl; shown = l.shown }

-- nothing is printed
shown_nothing : (out : List ℕ) → Shown out [] 0 out
shown_nothing out = record { counted = refl; bytes = refl }

-- the table in the memory is what it is by the slots that it has, and the words past it follow
table_again : (n : ℕ) (memory : List ℕ) → take (length (take n memory)) memory ≡ take n memory
table_again zero memory = refl
table_again (suc n) [] = refl
table_again (suc n) (word ∷ memory) = ap (λ (l : List ℕ). word ∷ l) (table_again n memory)

table_first : (n : ℕ) (memory : List ℕ) → memory ≡ take n memory ++ drop (length (take n memory)) memory
table_first zero memory = refl
table_first (suc n) [] = refl
table_first (suc n) (word ∷ memory) = ap (λ (l : List ℕ). word ∷ l) (table_first n memory)

-- at the end of the input
module _ (memory line : List ℕ) (place : Place) {b : Bool} (e : b ≡ standing place.held) where
  pub turned_last : {turn : Turn} {memory' out out' : List ℕ} → b ≡ true
      → Turned (handed_out line_outcome (reading_of memory line place)) 0 turn memory memory' line out out'
      → Turned (finished line_outcome (reading_of memory line place)) 0 turn memory memory' line out out'
  turned_last f t = rw (sym e ∙ f) t

  pub turned_end : (present : ℕ) → present * 6 ≡ length (table_in memory place.slots) → (out : List ℕ) → b ≡ false
      → Turned (finished line_outcome (reading_of memory line place)) 0
      (record { place = record { slots = present; held = place.held; number = place.number }; next = 0; length = 0 }) memory memory line out out
  turned_end present g out f =
      rw (sym e ∙ f) (record {
        slots = g;
        table = table_first (place.slots * 6) memory;
        line = refl;
        held = refl;
        number = refl;
        on = refl;
        shown = shown_nothing out;
      })

-- bytes taken out of a block
module _
    (memory line block : List ℕ) (place : Place) (from : ℕ) (taken : Taken) (line' : List ℕ) (present : ℕ)
    (e : taken ≡ taken_of (length line) place.held (drop from block) from) (f : line' ≡ held_line line place.held (first_part 10 (drop from block)))
    (g : present * 6 ≡ length (table_in memory place.slots)) where
  abbrev after : Place
  after = record { slots = present; held = taken.held; number = place.number }

  begun : reading_of memory line' after ≡ taking line_outcome (reading_of memory line place) block from
  begun =
      let held = ap (λ (t : Taken). t.held) e in
      let table : table_in memory present ≡ table_in memory place.slots =
      ap (λ (k : ℕ). take k memory) g ∙ table_again (place.slots * 6) memory in
      λ i. record { table = table i; printed = []; line = f i; held = held i; number = place.number }

  pub turned_complete : {turn : Turn} {memory' out out' : List ℕ} → taken.complete ≡ true
      → Turned (handed_out line_outcome (reading_of memory line' after)) taken.next turn memory memory' line' out out'
      → Turned (turn_of (reading_of memory line place) block from) (taken_of (length line) place.held (drop from block) from).next turn memory memory' line' out out'
  turned_complete {turn} {memory'} {out} {out'} c t =
      let full = sym (ap (λ (x : Taken). x.complete) e) ∙ c in
      let next = ap (λ (x : Taken). x.next) e in
      rw full
      (subst (λ (k : ℕ). Turned (handed_out line_outcome (taking line_outcome (reading_of memory line place) block from)) k turn memory memory' line' out out') next
      (subst (λ (r : Reading (List ℕ)). Turned (handed_out line_outcome r) taken.next turn memory memory' line' out out') begun t))

  pub turned_begun : (out : List ℕ) → taken.complete ≡ false
      → Turned (turn_of (reading_of memory line place) block from) (taken_of (length line) place.held (drop from block) from).next
      (record { place = after; next = taken.next; length = 0 }) memory memory line' out out
  turned_begun out c =
      let held_on = sym (ap (λ (x : Taken). x.complete) e) ∙ c in
      rw held_on (record {
        slots = g;
        table = table_first (place.slots * 6) memory;
        line = f;
        held = ap (λ (x : Taken). x.held) e;
        number = refl;
        on = ap (λ (x : Taken). x.next) e;
        shown = shown_nothing out;
      })
