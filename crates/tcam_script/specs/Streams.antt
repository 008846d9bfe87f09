-- What reads took from a reader and what writes added to a writer, where the bytes of these are known: those that the reader has left, and those
-- that the writer holds. Nothing is said of a reader or a writer that does not tell them, as the system's.
use Rattle.std.specs.Prelude.{◌≡◌, Bool, true, List, ℕ, ◌≤◌, length, take, Option, None, Some}
use Rattle.std.specs.Io.KnownBytes.{Keeps, Consumes, IsAtEnd, Appends}

-- the bytes that a reader has left, and those that a writer holds
pub record Known : Type 0 where
  pub left : Option (List ℕ)
  pub held : Option (List ℕ)

abbrev pub known : Option (List ℕ) → Option (List ℕ) → Known
known left held = record { left = left; held = held }

-- by what a read answered: where it failed it took nothing, else so many bytes, which are at the buffer's start; none are the end
abbrev pub ReadGave : Option ℕ → List ℕ → Option (List ℕ) → Option (List ℕ) → Type 0
ReadGave (Some k) buffer left left' = Consumes left left' (take k buffer) × (k ≡ 0 → IsAtEnd left')
ReadGave None buffer left left' = Keeps left left'

-- bytes added to a writer: all of them where all writes went well, and some from their start in any case
pub record Wrote (held held' : Option (List ℕ)) (bytes : List ℕ) (well : Bool) : Type 0 where
  pub all : well ≡ true → Appends held held' bytes
  pub some : (count : ℕ) × (count ≤ length bytes) × Appends held held' (take count bytes)
