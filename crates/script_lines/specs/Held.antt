-- What the code holds of a line: its first bytes, as many as the lent buffer has.
-- A piece is put behind the bytes held as far as there is room; the bytes past the room are counted no further.
use Rattle.std.specs.Prelude.{Bool, cond, List, ℕ, ◌+◌, ◌-◌, min, ltb, length}
use Rattle.std.proofs.Math.Seq.{paste}
use Rattle.script_text.specs.Parts.{first_part}
use Rattle.script_lines.specs.declared.Taken.{Taken}

-- how many of so many bytes there is still room for, in a buffer of so many
abbrev pub room : ℕ → ℕ → ℕ → ℕ
room size held count = min (size - held) count

-- the line's buffer with a piece behind the bytes held
unfoldable pub held_line : List ℕ → ℕ → List ℕ → List ℕ
held_line line held piece = paste line held piece (room (length line) held (length piece))

-- what is taken out of the rest of a block that starts at a place: the bytes before the newline, and the newline where there is one
unfoldable pub taken_of : ℕ → ℕ → List ℕ → ℕ → Taken
taken_of size held rest from =
    let piece = length (first_part 10 rest) in
    record {
      held = held + room size held piece;
      next = cond (ltb piece (length rest)) (from + piece + 1) (from + piece);
      complete = ltb piece (length rest);
    }

-- some byte of a line stands there
abbrev pub standing : ℕ → Bool
standing held = ltb 0 held
