-- The parts of a text between separators: lines between newlines, fields between spaces.
use Rattle.std.specs.Prelude.{Bool, true, not, cond, ◌&&◌, List, [], ◌∷◌, ◌++◌, ℕ, eqb}

-- the bytes before the first separator, or all where there is none
unfoldable pub first_part : ℕ → List ℕ → List ℕ
first_part s [] = []
first_part s (b ∷ rest) = cond (eqb b s) [] (b ∷ first_part s rest)

-- one more byte before the first part
abbrev pub extended : ℕ → List (List ℕ) → List (List ℕ)
extended b [] = (b ∷ []) ∷ []
extended b (p ∷ ps) = (b ∷ p) ∷ ps

-- all parts, in their order: n separators part n + 1 parts, any of which may be empty
unfoldable pub parts : ℕ → List ℕ → List (List ℕ)
parts s [] = [] ∷ []
parts s (b ∷ rest) = cond (eqb b s) ([] ∷ parts s rest) (extended b (parts s rest))

-- no byte is the separator
unfoldable pub unparted : ℕ → List ℕ → Bool
unparted s [] = true
unparted s (b ∷ rest) = not (eqb b s) && unparted s rest

-- the parts with a separator between each two
unfoldable pub joined : ℕ → List (List ℕ) → List ℕ
joined s [] = []
joined s (p ∷ []) = p
joined s (p ∷ q ∷ ps) = p ++ s ∷ joined s (q ∷ ps)
