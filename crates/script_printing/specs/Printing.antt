-- Bytes written into a buffer from a place on, all others untouched.
-- One piece after the other: the second starts where the first ended.
use Rattle.std.specs.Prelude.{◌≡◌, List, ◌++◌, ℕ, ◌+◌, length, take, drop}

-- the buffer with these bytes from a place on
abbrev pub written : List ℕ → ℕ → List ℕ → List ℕ
written out at bytes = take at out ++ bytes ++ drop (at + length bytes) out

-- what a call that prints a text does: its answer is the place after it, and the buffer has its bytes
pub record Printed (out : List ℕ) (at : ℕ) (text : List ℕ) (next : ℕ) (after : List ℕ) : Type 0 where
  pub place : next ≡ at + length text
  pub bytes : after ≡ written out at text

-- the same at the buffer's start, for a whole answer: the call's answer is how many bytes it has
pub record Shown (out : List ℕ) (text : List ℕ) (count : ℕ) (after : List ℕ) : Type 0 where
  pub counted : count ≡ length text
  pub bytes : after ≡ text ++ drop (length text) out
