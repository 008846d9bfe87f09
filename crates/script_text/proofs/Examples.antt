-- Worked examples: decimals and parts, by computation.
use Rattle.std.specs.Prelude.{◌≡◌, refl, [], ◌∷◌}
use Rattle.script_text.specs.Decimal.{digits_in, digits_of}
use Rattle.script_text.specs.Parts.{parts}

digits_0 : digits_of 0 ≡ 48 ∷ []
unfolding digits_of digits_in
digits_0 = refl

digits_307 : digits_of 307 ≡ 51 ∷ 48 ∷ 55 ∷ []
unfolding digits_of digits_in
digits_307 = refl

-- `a  b` has an empty part between its two spaces; a text that ends in a separator ends in an empty part
two_spaces : parts 32 (97 ∷ 32 ∷ 32 ∷ 98 ∷ []) ≡ (97 ∷ []) ∷ [] ∷ (98 ∷ []) ∷ []
unfolding parts
two_spaces = refl

last_empty : parts 32 (97 ∷ 32 ∷ []) ≡ (97 ∷ []) ∷ [] ∷ []
unfolding parts
last_empty = refl
