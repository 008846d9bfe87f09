-- Reading a script block by block, on lent buffers: each call is one turn of the reading of `script_lines`.
-- The reading's table is the one in the lent memory, and what a call prints stands at the start of the lent output.
use Rattle.std.specs.Prelude.{◌≡◌, cond, List, [], ◌++◌, ℕ, ◌*◌, length, drop}
use Rattle.script_lines.specs.Held.{taken_of}
use Rattle.script_lines.specs.Blocks.{Reading, taking, handed_out}
use Rattle.script_printing.specs.Printing.{Shown}
use Rattle.script.specs.Script.{line_outcome, table_in}
use Rattle.script_turns.specs.declared.Place.{Place}
use Rattle.script_turns.specs.declared.Turn.{Turn}

-- what the program has at hand before a call that prints: the table in the memory, nothing printed yet, the line begun and its number
abbrev pub reading_of : List ℕ → List ℕ → Place → Reading (List ℕ)
reading_of memory line place = record {
  table = table_in memory place.slots;
  printed = [];
  line = line;
  held = place.held;
  number = place.number;
}

-- one turn: bytes are taken out of the block, and a line that is complete is handed out
abbrev pub turn_of : Reading (List ℕ) → List ℕ → ℕ → Reading (List ℕ)
turn_of r block from =
    cond (taken_of (length r.line) r.held (drop from block) from).complete (handed_out line_outcome (taking line_outcome r block from))
    (taking line_outcome r block from)

-- What a call leaves: the reading afterwards, but for what was printed before the call. The table stands at the memory's start, and words past
-- it are left as they were; its bytes stand at the start of the output, and the bytes past them are left as they were.
pub record Turned (after : Reading (List ℕ)) (next : ℕ) (turn : Turn) (memory memory' line' out out' : List ℕ) : Type 0 where
  pub slots : turn.place.slots * 6 ≡ length after.table
  pub table : memory' ≡ after.table ++ drop (length after.table) memory
  pub line : line' ≡ after.line
  pub held : turn.place.held ≡ after.held
  pub number : turn.place.number ≡ after.number
  pub on : turn.next ≡ next
  pub shown : Shown out after.printed turn.length out'
