-- End theorems on whole scripts: a program that calls take_turn until each block's end, writes each answer, and calls last_turn at the end of the input
-- prints exactly what the script comes to, however the input is cut into blocks.
use Rattle.std.specs.Prelude.{◌≡◌, refl, true, false, ◌⊎◌, List, [], ◌∷◌, ◌++◌, ℕ, zero, suc, ◌+◌, ◌-◌, ◌≤◌, ◌<◌, length, take, drop}
use Rattle.std.proofs.Common.{sym, ap, ap₂, ◌∙◌, subst, append_assoc, append-nil, arith, length-append, length-drop, lt-ltb, le-ltb}
use Rattle.std.proofs.Math.Logic.◌⊎◌.{inl, inr}
use Rattle.std.proofs.Math.Decide.{dec_lt}
use Rattle.std.proofs.Math.Seq.{take-append_seam}
use Rattle.search.specs.SearchLaws.{decided}
use Rattle.script_text.specs.Parts.{first_part}
use Rattle.script_text.proofs.PartsLaws.{first_le}
use Rattle.script_lines.specs.Lines.{next_number}
use Rattle.script_lines.specs.Held.{taken_of, standing}
use Rattle.script_lines.specs.Blocks.{Reading, Outcome, whole, started, taking, handed_out, turns, blocks_read, finished, outcome, answered}
use Rattle.script_lines.proofs.BlocksLaws.{blocks_as_whole}
use Rattle.script_printing.specs.Printing.{Shown}
use Rattle.script_commands.specs.CommandsLaws.{command_short}
use Rattle.script.specs.Script.{command_outcome, line_outcome, table_in}
use Rattle.script_turns.specs.declared.Turn.{Turn}
use Rattle.script_turns.specs.Reading.{reading_of, turn_of, Turned}
use Rattle.script_turns.specs.ReadingLaws.{turned_table}
use Rattle.script_transcripts.specs.Whole.{Kept, keeping, Read, opening, Called, script_outcome, Through, next_of}

-- however the input is cut into blocks, the reading comes to what the script does
pub blocks_script : (line : List ℕ) (blocks : List (List ℕ)) → length line ≡ 257
    → outcome line_outcome (finished line_outcome (blocks_read line_outcome (started line_outcome [] line) blocks)) ≡ script_outcome (whole blocks)
unfolding script_outcome
blocks_script line blocks h =
    blocks_as_whole line_outcome (λ table number bytes. ap (command_outcome table number) (command_short bytes)) [] line blocks h

-- the reading stands where the program does; what it has printed is no part of that
pub record At (r : Reading (List ℕ)) (kept : Kept) : Type 0 where
  pub table : table_in kept.memory kept.place.slots ≡ r.table
  pub line : kept.line ≡ r.line
  pub held : kept.place.held ≡ r.held
  pub number : kept.place.number ≡ r.number

-- the reading that has printed these bytes before
abbrev printed_before : List ℕ → Reading (List ℕ) → Reading (List ℕ)
printed_before bytes r = record { table = r.table; printed = bytes ++ r.printed; line = r.line; held = r.held; number = r.number }

-- a reading is what the program has at hand, after what was printed before
at_reading : (r : Reading (List ℕ)) (kept : Kept) → At r kept
    → r ≡ printed_before r.printed (reading_of kept.memory kept.line kept.place)
at_reading r kept a =
    let table = sym a.table in
    let line = sym a.line in
    let held = sym a.held in
    let number = sym a.number in
    let bytes = sym (append-nil r.printed) in
    λ i. record { table = table i; printed = bytes i; line = line i; held = held i; number = number i }

-- what was printed before makes no difference to a turn, nor to the end
turn_before : (bytes : List ℕ) (r : Reading (List ℕ)) (block : List ℕ) (from : ℕ)
    → turn_of (printed_before bytes r) block from ≡ printed_before bytes (turn_of r block from)
turn_before bytes r block from = pick (decided (taken_of (length r.line) r.held (drop from block) from).complete)
  where
    pick : ((taken_of (length r.line) r.held (drop from block) from).complete ≡ true) ⊎ ((taken_of (length r.line) r.held (drop from block) from).complete ≡ false)
        → turn_of (printed_before bytes r) block from ≡ printed_before bytes (turn_of r block from)
    pick (inl e) =
        let t = taking line_outcome r block from in
        let same = append_assoc bytes r.printed (line_outcome r.table r.number (take t.held t.line)).printed in
        let x = handed_out line_outcome t in
        rw e (λ i. record { table = x.table; printed = same i; line = x.line; held = x.held; number = x.number })
    pick (inr e) = rw e

finish_before : (bytes : List ℕ) (r : Reading (List ℕ)) → finished line_outcome (printed_before bytes r) ≡ printed_before bytes (finished line_outcome r)
finish_before bytes r = pick (decided (standing r.held))
  where
    pick : (standing r.held ≡ true) ⊎ (standing r.held ≡ false) → finished line_outcome (printed_before bytes r) ≡ printed_before bytes (finished line_outcome r)
    pick (inl e) =
        let same = append_assoc bytes r.printed (line_outcome r.table r.number (take r.held r.line)).printed in
        let x = handed_out line_outcome r in
        rw e (λ i. record { table = x.table; printed = same i; line = x.line; held = x.held; number = x.number })
    pick (inr e) = rw e

-- the bytes that a call shows stand at the start of the output
shown_bytes : {out text : List ℕ} {count : ℕ} {out' : List ℕ} → Shown out text count out' → take count out' ≡ text
shown_bytes {out} {text} s = ap₂ take s.counted s.bytes ∙ take-append_seam text (drop (length text) out)

-- and lie within it
pub shown_within : {out text : List ℕ} {count : ℕ} {out' : List ℕ} → Shown out text count out' → count ≤ length out'
shown_within {out} {text} s =
    let size = ap length s.bytes ∙ length-append text (drop (length text) out) in omega (arith, s.counted, size)

-- What a call leaves, where the reading stands: the reading after it stands where the program then does, and it has printed the bytes at the
-- output's start more.
module _ {after x : Reading (List ℕ)} {next : ℕ} {turn : Turn} {memory memory' line' out out' : List ℕ} where
  goes_on : (bytes : List ℕ) → after ≡ printed_before bytes x → Turned x next turn memory memory' line' out out'
      → At after (keeping memory' line' turn.place) × (after.printed ≡ bytes ++ take turn.length out')
  goes_on bytes e t = (
    record {
      table = turned_table t ∙ ap (λ (y : Reading (List ℕ)). y.table) (sym e);
      line = t.line ∙ ap (λ (y : Reading (List ℕ)). y.line) (sym e);
      held = t.held ∙ ap (λ (y : Reading (List ℕ)). y.held) (sym e);
      number = t.number ∙ ap (λ (y : Reading (List ℕ)). y.number) (sym e);
    },
    ap (λ (y : Reading (List ℕ)). y.printed) e ∙ ap (λ (y : List ℕ). bytes ++ y) (sym (shown_bytes t.shown)),
  )

-- a call of take_turn is a turn of the reading
pub turn_kept : (r : Reading (List ℕ)) (kept : Kept) (block : List ℕ) (from next : ℕ) (turn : Turn) (memory' line' out out' : List ℕ) → At r kept
    → Turned (turn_of (reading_of kept.memory kept.line kept.place) block from) next turn kept.memory memory' line' out out'
    → At (turn_of r block from) (keeping memory' line' turn.place)
    × ((turn_of r block from).printed ≡ r.printed ++ take turn.length out')
turn_kept r kept block from next turn memory' line' out out' a t =
    goes_on r.printed
    (ap (λ (y : Reading (List ℕ)). turn_of y block from) (at_reading r kept a) ∙ turn_before r.printed (reading_of kept.memory kept.line kept.place) block from) t

-- a call of last_turn is the reading's end
pub last_kept_lem : (r : Reading (List ℕ)) (kept : Kept) (turn : Turn) (memory' out out' : List ℕ) → At r kept
    → Turned (finished line_outcome (reading_of kept.memory kept.line kept.place)) 0 turn kept.memory memory' kept.line out out'
    → At (finished line_outcome r) (keeping memory' kept.line turn.place)
    × ((finished line_outcome r).printed ≡ r.printed ++ take turn.length out')
last_kept_lem r kept turn memory' out out' a t =
    goes_on r.printed
    (ap (finished line_outcome) (at_reading r kept a) ∙ finish_before r.printed (reading_of kept.memory kept.line kept.place)) t

-- one turn of the reading is one of `turns`; each takes a byte, and none goes past the block
turns_turn : (k : ℕ) (r : Reading (List ℕ)) (block : List ℕ) (from : ℕ) → from < length block
    → turns line_outcome (suc k) r block from ≡ turns line_outcome k (turn_of r block from) block (taken_of (length r.line) r.held (drop from block) from).next
unfolding turns
turns_turn k r block from h = rw (lt-ltb from (length block) h)

turns_end : (k : ℕ) (r : Reading (List ℕ)) (block : List ℕ) (from : ℕ) → length block ≤ from → turns line_outcome k r block from ≡ r
unfolding turns
turns_end zero r block from h = refl
turns_end (suc k) r block from h = rw (le-ltb from (length block) h)

pub next_within : (size held : ℕ) (block : List ℕ) (from : ℕ) → from < length block
    → (from < (taken_of size held (drop from block) from).next) × ((taken_of size held (drop from block) from).next ≤ length block)
unfolding taken_of
next_within size held block from h = pick (dec_lt piece (length (drop from block)))
  where
    piece : ℕ
    piece = length (first_part 10 (drop from block))

    pick : Dec (piece < length (drop from block))
        → (from < (taken_of size held (drop from block) from).next) × ((taken_of size held (drop from block) from).next ≤ length block)
    pick (yes l) = rw (lt-ltb piece (length (drop from block)) l) (omega arith, omega (arith, length-drop from block))
    pick (no l) =
        let n = length-drop from block in
        let m = first_le 10 (drop from block) in
        rw (le-ltb piece (length (drop from block)) (omega arith)) (omega arith, omega arith)

-- after calls the reading stands where the program does, so many turns on
record Stands (r : Reading (List ℕ)) (block : List ℕ) (bytes : List ℕ) (kept : Kept) (from : ℕ) : Type 0 where
  now : Reading (List ℕ)
  at : At now kept
  printed : now.printed ≡ r.printed ++ bytes
  taken : ℕ
  few : taken ≤ from
  within : from ≤ length block
  same : (k : ℕ) → turns line_outcome (taken + k) r block 0 ≡ turns line_outcome k now block from

calls_stand : (r : Reading (List ℕ)) (block : List ℕ) (start : Kept) → At r start → (bytes : List ℕ) (kept : Kept) (from : ℕ)
    → Called block start bytes kept from → Stands r block bytes kept from
calls_stand r block start a _ _ _ Called.begin = record {
  now = r;
  at = a;
  printed = sym (append-nil r.printed);
  taken = 0;
  few = omega arith;
  within = omega arith;
  same = λ k. ap (λ (n : ℕ). turns line_outcome n r block 0) (let e : 0 + k ≡ k = omega arith in e);
}
calls_stand r block start a _ _ _ (Called.turned bytes kept from before h turn memory' line' out out' t) =
    on (calls_stand r block start a bytes kept from before)
  where
    on : Stands r block bytes kept from
        → Stands r block (bytes ++ take turn.length out') (keeping memory' line' turn.place) turn.next
    on s =
        let go = turn_kept s.now kept block from (next_of kept block from) turn memory' line' out out' s.at t in
        let move = next_within (length kept.line) kept.place.held block from h in
        let place : (taken_of (length s.now.line) s.now.held (drop from block) from).next ≡ turn.next =
        ap₂ (λ (l : List ℕ) (n : ℕ). (taken_of (length l) n (drop from block) from).next) (sym s.at.line) (sym s.at.held) ∙ sym t.on in
        let few = s.few in
        let step = t.on in
        record {
          now = turn_of s.now block from;
          at = go.0;
          printed = go.1 ∙ (ap (λ (x : List ℕ). x ++ take turn.length out') s.printed ∙ append_assoc r.printed bytes (take turn.length out'));
          taken = suc s.taken;
          few = omega (arith, few, step, move.0);
          within = omega (arith, step, move.1);
          same = λ k.
              ap (λ (n : ℕ). turns line_outcome n r block 0) (let e : suc s.taken + k ≡ s.taken + suc k = omega arith in e)
              ∙ (s.same (suc k)
              ∙ (turns_turn k s.now block from h ∙ ap (turns line_outcome k (turn_of s.now block from) block) place));
        }

-- a block taken until its end is a block of the reading
pub block_kept : (r : Reading (List ℕ)) (block : List ℕ) (start : Kept) → At r start → (bytes : List ℕ) (kept : Kept) → Through block start bytes kept
    → At (turns line_outcome (length block) r block 0) kept × ((turns line_outcome (length block) r block 0).printed ≡ r.printed ++ bytes)
block_kept r block start a bytes kept (from, h, called) =
    let s = calls_stand r block start a bytes kept from called in
    let few = s.few in
    let within = s.within in
    let e : turns line_outcome (length block) r block 0 ≡ s.now =
    ap (λ (n : ℕ). turns line_outcome n r block 0) (let n : length block ≡ s.taken + (length block - s.taken) = omega arith in n)
    ∙ (s.same (length block - s.taken) ∙ turns_end (length block - s.taken) s.now block from h) in
    (subst (λ (x : Reading (List ℕ)). At x kept) (sym e) s.at, ap (λ (x : Reading (List ℕ)). x.printed) e ∙ s.printed)

-- one block more
blocks_more : (r : Reading (List ℕ)) (blocks : List (List ℕ)) (block : List ℕ)
    → blocks_read line_outcome r (blocks ++ block ∷ []) ≡ turns line_outcome (length block) (blocks_read line_outcome r blocks) block 0
unfolding blocks_read
blocks_more r [] block = refl
blocks_more r (first ∷ blocks) block = blocks_more (turns line_outcome (length first) r first 0) blocks block

-- blocks read one after the other are the reading of those blocks
pub blocks_kept : (r : Reading (List ℕ)) (start : Kept) → At r start → (blocks : List (List ℕ)) (bytes : List ℕ) (kept : Kept) → Read start blocks bytes kept
    → At (blocks_read line_outcome r blocks) kept × ((blocks_read line_outcome r blocks).printed ≡ r.printed ++ bytes)
unfolding blocks_read
blocks_kept r start a _ _ _ Read.nothing = (a, sym (append-nil r.printed))
blocks_kept r start a _ _ _ (Read.one_more blocks bytes kept before next more kept' through) = on (blocks_kept r start a blocks bytes kept before)
  where
    on : At (blocks_read line_outcome r blocks) kept × ((blocks_read line_outcome r blocks).printed ≡ r.printed ++ bytes)
        → At (blocks_read line_outcome r (blocks ++ next ∷ [])) kept' × ((blocks_read line_outcome r (blocks ++ next ∷ [])).printed ≡ r.printed ++ (bytes ++ more))
    on (at, printed) =
        let here = block_kept (blocks_read line_outcome r blocks) next kept at more kept' through in
        let e = blocks_more r blocks next in (
          subst (λ (x : Reading (List ℕ)). At x kept') (sym e) here.0,
          ap (λ (x : Reading (List ℕ)). x.printed) e
              ∙ (here.1 ∙ (ap (λ (x : List ℕ). x ++ more) printed ∙ append_assoc r.printed bytes more)),
        )

-- The whole script: the answers of all turns and of the last are what the input prints, and the table in the memory is the one it leaves.
pub script_printed : (memory line : List ℕ) → length line ≡ 257 → (blocks : List (List ℕ)) (bytes : List ℕ) (kept : Kept)
    → Read (opening memory line) blocks bytes kept → (turn : Turn) (memory' out out' : List ℕ)
    → Turned (finished line_outcome (reading_of kept.memory kept.line kept.place)) 0 turn kept.memory memory' kept.line out out'
    → (bytes ++ take turn.length out' ≡ (script_outcome (whole blocks)).printed)
    × (table_in memory' turn.place.slots ≡ (script_outcome (whole blocks)).table)
script_printed memory line h blocks bytes kept read turn memory' out out' t =
    let begun = started line_outcome [] line in
    let a : At begun (opening memory line) = record { table = refl; line = refl; held = refl; number = refl } in
    let here = blocks_kept begun (opening memory line) a blocks bytes kept read in
    let end = last_kept_lem (blocks_read line_outcome begun blocks) kept turn memory' out out' here.0 t in
    let e = blocks_script line blocks h in (
      ap (λ (x : List ℕ). x ++ take turn.length out') (sym here.1) ∙ (sym end.1 ∙ ap (λ (x : Outcome (List ℕ)). x.printed) e),
      end.0.table ∙ ap (λ (x : Outcome (List ℕ)). x.table) e,
    )

-- one line more, numbers counted on while they are below the top of 64 bits
line_next : (t : List ℕ) (number : ℕ) (lines : List (List ℕ)) (line : List ℕ) → number + length lines ≤ 18446744073709551615
    → (answered line_outcome t number (lines ++ line ∷ [])).printed
    ≡ (answered line_outcome t number lines).printed ++ (line_outcome (answered line_outcome t number lines).table (number + length lines) line).printed
unfolding answered
line_next t number [] line h =
    append-nil (line_outcome t number line).printed ∙ ap (λ (n : ℕ). (line_outcome t n line).printed) (let e : number ≡ number + 0 = omega arith in e)
line_next t number (first ∷ lines) line h =
    let table = (line_outcome t number first).table in
    let next = answered line_outcome table (next_number number) lines in
    let same : next_number number + length lines ≡ number + length (first ∷ lines) = omega arith in
    ap (λ (x : List ℕ). (line_outcome t number first).printed ++ x)
    (line_next table (next_number number) lines line (omega arith) ∙ ap (λ (n : ℕ). next.printed ++ (line_outcome next.table n line).printed) same)
    ∙ sym (append_assoc (line_outcome t number first).printed next.printed (line_outcome next.table (number + length (first ∷ lines)) line).printed)

-- Lines are numbered from 1: a line prints what its number is told, one more than there are lines before it, while that fits 64 bits.
pub script_numbered : (lines : List (List ℕ)) (line : List ℕ) → length lines < 18446744073709551615
    → (answered line_outcome [] 1 (lines ++ line ∷ [])).printed
    ≡ (answered line_outcome [] 1 lines).printed ++ (line_outcome (answered line_outcome [] 1 lines).table (length lines + 1) line).printed
script_numbered lines line h =
    line_next [] 1 lines line (omega arith)
    ∙ ap (λ (n : ℕ). (answered line_outcome [] 1 lines).printed ++ (line_outcome (answered line_outcome [] 1 lines).table n line).printed)
    (let e : 1 + length lines ≡ length lines + 1 = omega arith in e)
