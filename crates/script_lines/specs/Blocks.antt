-- Reading in blocks: what is held between two blocks, a turn of the reading, and the lines handed out.
-- Stated over any handler of lines.
use Rattle.std.specs.Prelude.{cond, List, [], ◌∷◌, ◌++◌, ℕ, zero, suc, ltb, length, take, drop}
use Rattle.script_text.specs.Parts.{first_part}
use Rattle.script_lines.specs.Lines.{next_number}
use Rattle.script_lines.specs.Held.{held_line, taken_of, standing}

-- all bytes of the blocks, one block after the other
unfoldable pub whole : List (List ℕ) → List ℕ
whole [] = []
whole (block ∷ blocks) = block ++ whole blocks

-- what the reading program has at hand: its table, what it has printed, the line's buffer, the bytes held of the line, the line's number
pub record Reading (S : Type 0) : Type 0 where
  pub table : S
  pub printed : List ℕ
  pub line : List ℕ
  pub held : ℕ
  pub number : ℕ

-- what is told of a run over lines: the table afterwards, and all that was printed
pub record Outcome (S : Type 0) : Type 0 where
  pub table : S
  pub printed : List ℕ

-- A handler takes a table, a line's number and its bytes, and gives the table afterwards and the bytes to print.
module _ {S : Type 0} (run : S → ℕ → List ℕ → Outcome S) where
  -- lines handed to it in turn, the first with this number
  unfoldable pub answered : S → ℕ → List (List ℕ) → Outcome S
  answered table number [] = record { table = table; printed = [] }
  answered table number (line ∷ lines) =
      let first = run table number line in
      let rest = answered first.table (next_number number) lines in
      record { table = rest.table; printed = first.printed ++ rest.printed }

  -- The reading program. It starts with line 1, and nothing held.
  abbrev pub started : S → List ℕ → Reading S
  started table line = record { table = table; printed = []; line = line; held = 0; number = 1 }

  -- the line held is handed out
  abbrev pub handed_out : Reading S → Reading S
  handed_out r =
      let answer = run r.table r.number (take r.held r.line) in
      record { table = answer.table; printed = r.printed ++ answer.printed; line = r.line; held = 0; number = next_number r.number }

  -- bytes are taken out of a block from a place on, as take_bytes does
  abbrev pub taking : Reading S → List ℕ → ℕ → Reading S
  taking r block at = record {
    table = r.table;
    printed = r.printed;
    line = held_line r.line r.held (first_part 10 (drop at block));
    held = (taken_of (length r.line) r.held (drop at block) at).held;
    number = r.number;
  }

  -- a block, from a place on: bytes are taken, and a line that is complete is handed out, for so many turns or until the block's end
  unfoldable pub turns : ℕ → Reading S → List ℕ → ℕ → Reading S
  turns zero r block at = r
  turns (suc k) r block at =
      let taken = taken_of (length r.line) r.held (drop at block) at in
      let after = taking r block at in
      let next = turns k (cond taken.complete (handed_out after) after) block taken.next in
      cond (ltb at (length block)) next r

  -- all blocks; each turn takes a byte, so that a block has no more turns than bytes
  unfoldable pub blocks_read : Reading S → List (List ℕ) → Reading S
  blocks_read r [] = r
  blocks_read r (block ∷ blocks) = blocks_read (turns (length block) r block 0) blocks

  -- at the end of the input a line that stands there is handed out
  abbrev pub finished : Reading S → Reading S
  finished r = cond (standing r.held) (handed_out r) r

  abbrev pub outcome : Reading S → Outcome S
  outcome r = record { table = r.table; printed = r.printed }

-- The lines handed out themselves: what is known of each is its number and its first 257 bytes.
pub record Handed : Type 0 where
  pub number : ℕ
  pub bytes : List ℕ

-- lines with their numbers, the first with this one
unfoldable pub numbered : ℕ → List (List ℕ) → List Handed
numbered number [] = []
numbered number (line ∷ lines) = record { number = number; bytes = take 257 line } ∷ numbered (next_number number) lines

-- a handler that lists what it is handed
abbrev pub listing : List Handed → ℕ → List ℕ → Outcome (List Handed)
listing handed number line = record { table = handed ++ record { number = number; bytes = take 257 line } ∷ []; printed = [] }
