-- Document 01: lines end in a newline (the last may lack it); nothing after the last newline is no line.
-- A line's number counts from 1 and stays at the top of 64 bits.
use Rattle.std.specs.Prelude.{cond, List, [], ◌∷◌, ℕ, ◌+◌, min, eqb, length}
use Rattle.script_text.specs.Parts.{parts}

-- the parts without the last, where that is empty
unfoldable pub last_kept : List (List ℕ) → List (List ℕ)
last_kept [] = []
last_kept (p ∷ []) = cond (eqb (length p) 0) [] (p ∷ [])
last_kept (p ∷ q ∷ ps) = p ∷ last_kept (q ∷ ps)

-- the lines of an input, without their newlines
unfoldable pub lines_of : List ℕ → List (List ℕ)
lines_of input = last_kept (parts 10 input)

-- the number after a line's
abbrev pub next_number : ℕ → ℕ
next_number number = min (number + 1) 18446744073709551615
