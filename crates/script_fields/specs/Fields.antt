-- The fields of a script line: numbers, patterns, keys.
-- Symbols are bytes: the digits 0 to 9 are 48 to 57, the star is 42.
use Rattle.std.specs.Prelude.{Bool, true, false, cond, ◌&&◌, ◌||◌, List, ℕ, zero, suc, ◌+◌, ◌*◌, ◌<◌, eqb, leb, ltb, length, get_or, ◌≡◌, Option, None, Some}
use Rattle.script_text.specs.Decimal.{every, digit, decimal}
use Rattle.script_fields.specs.declared.TwoWords.{TwoWords}

-- a digit from 0 to the last one given, or a star where stars are allowed
abbrev pub symbol : ℕ → Bool → ℕ → Bool
symbol last star b = (star && eqb b 42) || (leb 48 b && leb b last)

-- a field has at least one byte and at most so many
abbrev pub sized : ℕ → List ℕ → Bool
sized most field = leb 1 (length field) && leb (length field) most

-- document 01: numbers have 1 to 10 decimal digits and fit 32 bits
unfoldable pub is_number : List ℕ → Bool
is_number field = sized 10 field && (every digit field && ltb (decimal field) 4294967296)

-- the number in a field; 2^32, which does not fit, where there is none
unfoldable pub number_in : List ℕ → ℕ
number_in field = cond (is_number field) (decimal field) 4294967296

-- the number in a field as code tells it: where it fits 32 bits, else none
abbrev pub number_option : List ℕ → Option ℕ
number_option field = cond (ltb (number_in field) 4294967296) (Some (number_in field)) None

-- document 01: a pattern has 1 to 128 of 0 1 *, a key 1 to 128 of 0 1
abbrev pub symbol_field : Bool → List ℕ → Bool
symbol_field star field = sized 128 field && every (symbol 49 star) field

abbrev pub is_pattern : List ℕ → Bool
is_pattern field = symbol_field true field

abbrev pub is_key : List ℕ → Bool
is_key field = symbol_field false field

-- 1 where a test holds, else 0
abbrev pub one_if : Bool → ℕ
one_if true = 1
one_if false = 0

-- the number whose first n bits, highest first, a test gives
unfoldable pub binary : (ℕ → Bool) → ℕ → ℕ
binary p zero = 0
binary p (suc n) = binary p n * 2 + one_if (p n)

-- a symbol's value bit is 1 at 1; its mask bit is 1 at 0 and at 1, which are cared for. A star, and what stands past the field's end, has neither
abbrev pub bit_of : Bool → ℕ → Bool
bit_of zeros b = (zeros && eqb b 48) || eqb b 49

abbrev pub value_bit : ℕ → Bool
value_bit = bit_of false

abbrev pub mask_bit : ℕ → Bool
mask_bit = bit_of true

-- 64 symbols from a place on as a word, highest bit first
unfoldable pub symbol_word : (ℕ → Bool) → List ℕ → ℕ → ℕ
symbol_word test field from = binary (λ (j : ℕ). test (get_or field (from + j) 0)) 64

-- 128 symbols as two words
abbrev pub symbol_words : (ℕ → Bool) → List ℕ → TwoWords
symbol_words test field = record { high = symbol_word test field 0; low = symbol_word test field 64 }

-- What a pattern's symbols ask of a key's, so many of them from a place on: the same where the pattern has 0 or 1. Past its end a pattern asks
-- nothing, and a key has 0.
abbrev pub Asks : List ℕ → List ℕ → ℕ → ℕ → Type 0
Asks pattern key from count =
    (k : ℕ) → k < count → mask_bit (get_or pattern (from + k) 0) ≡ true → value_bit (get_or key (from + k) 0) ≡ value_bit (get_or pattern (from + k) 0)
