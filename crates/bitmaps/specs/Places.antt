-- The bounds of a choice of places: those of its scores, and those of the places.
use Rattle.std.specs.Prelude.{List, ℕ, ◌<◌, get_or}

-- the first n entries of a list are below a bound
abbrev pub Below : List ℕ → ℕ → ℕ → Type 0
Below xs n b = (k : ℕ) → k < n → get_or xs k 0 < b
