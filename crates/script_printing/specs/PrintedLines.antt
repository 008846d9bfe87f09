-- A printed line: a letter, each number after a space, a newline.
use Rattle.std.specs.Prelude.{List, [], ◌∷◌, ◌++◌, ℕ}
use Rattle.script_text.specs.Decimal.{digits_of}

-- a number after a space
abbrev pub printed_field : ℕ → List ℕ
printed_field n = 32 ∷ digits_of n

-- numbers, each after a space, and then the newline
abbrev pub printed_fields : List ℕ → List ℕ
printed_fields [] = 10 ∷ []
printed_fields (n ∷ ns) = printed_field n ++ printed_fields ns

-- a line of a letter and numbers
abbrev pub printed : ℕ → List ℕ → List ℕ
printed letter numbers = letter ∷ printed_fields numbers
