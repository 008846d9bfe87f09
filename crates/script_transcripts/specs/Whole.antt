-- A whole script: what it comes to from no table, and what a program's calls of take_turn and last_turn leave and print, one after the other.
use Rattle.std.specs.Prelude.{List, [], ◌∷◌, ◌++◌, ℕ, ◌≤◌, ◌<◌, length, take, drop}
use Rattle.script_lines.specs.Lines.{lines_of}
use Rattle.script_lines.specs.Held.{taken_of}
use Rattle.script_lines.specs.Blocks.{Outcome, answered}
use Rattle.script.specs.Script.{line_outcome}
use Rattle.script_turns.specs.declared.Place.{Place}
use Rattle.script_turns.specs.declared.Turn.{Turn}
use Rattle.script_turns.specs.Reading.{reading_of, turn_of, Turned}

-- document 01: before a good T the table has no slots; lines are numbered from 1
unfoldable pub script_outcome : List ℕ → Outcome (List ℕ)
script_outcome input = answered line_outcome [] 1 (lines_of input)

-- what a program keeps between calls: the memory, the line's buffer and the place
pub record Kept : Type 0 where
  pub memory : List ℕ
  pub line : List ℕ
  pub place : Place

abbrev pub keeping : List ℕ → List ℕ → Place → Kept
keeping memory line place = record { memory = memory; line = line; place = place }

-- where to go on in a block after a turn
abbrev pub next_of : Kept → List ℕ → ℕ → ℕ
next_of kept block from = (taken_of (length kept.line) kept.place.held (drop from block) from).next

-- Calls of take_turn on a block, from its start, each where the call before left the program; the bytes at the output's start after each
-- call, one answer after the other; and the place to go on in the block.
pub data Called (block : List ℕ) (start : Kept) : List ℕ → Kept → ℕ → Type 0 where
  begin : Called block start [] start 0
  turned : (bytes : List ℕ) (kept : Kept) (from : ℕ) → Called block start bytes kept from → from < length block
      → (turn : Turn) (memory' line' out out' : List ℕ)
      → Turned (turn_of (reading_of kept.memory kept.line kept.place) block from) (next_of kept block from) turn kept.memory memory' line' out out'
      → Called block start (bytes ++ take turn.length out') (keeping memory' line' turn.place) turn.next

-- a block taken until its end
abbrev pub Through : List ℕ → Kept → List ℕ → Kept → Type 0
Through block start bytes kept = (from : ℕ) × (length block ≤ from) × Called block start bytes kept from

-- Blocks read one after the other, each until its end; all the answers.
pub data Read (start : Kept) : List (List ℕ) → List ℕ → Kept → Type 0 where
  nothing : Read start [] [] start
  one_more : (blocks : List (List ℕ)) (bytes : List ℕ) (kept : Kept) → Read start blocks bytes kept
      → (next : List ℕ) (more : List ℕ) (kept' : Kept) → Through next kept more kept'
      → Read start (blocks ++ next ∷ []) (bytes ++ more) kept'

-- where a program starts: no slots, nothing held, line 1; whatever is in the memory, and a line's buffer of 257 bytes
abbrev pub opening : List ℕ → List ℕ → Kept
opening memory line = keeping memory line (record { slots = 0; held = 0; number = 1 })
