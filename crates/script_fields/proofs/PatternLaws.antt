-- End theorems on patterns and keys, bit by bit: symbol j is bit 127 − j of the 128, highest first; a value bit outside the mask is 0.
-- A star has neither bit, and so have the places past the field's end.
use Rattle.std.specs.Prelude.{◌≡◌, refl, Bool, true, false, ◌||◌, ◌↔◌, List, ℕ, zero, suc, ◌+◌, ◌-◌, ◌*◌, ◌/◌, ◌%◌, ◌^◌, ◌≤◌, ◌<◌, eqb, length, get_or}
use Rattle.std.proofs.Common.{sym, ap, ◌∙◌, arith, pow-suc, mul_comm, div-one}
use Rattle.std.proofs.Math.Nat.{div-div-eq-div-mul}
use Rattle.std.proofs.Math.Decide.{dec_lt}
use Rattle.ternary.specs.Bit.{bit}
use Rattle.ternary.proofs.BitLaws.{bit_zero}
use Rattle.script_fields.specs.Fields.{one_if, binary, bit_of, value_bit, mask_bit, symbol_word, Asks}
use Rattle.script_fields.proofs.FieldsLaws.{one_if_small, bit_past}

-- the bits of a number with one digit more
double_low : (b c : ℕ) → c ≤ 1 → bit (b * 2 + c) 0 ≡ c
unfolding bit
double_low b c h = rw div-one (omega arith)

double_high : (b c i : ℕ) → c ≤ 1 → bit (b * 2 + c) (suc i) ≡ bit b i
unfolding bit
double_high b c i h =
    let half : (b * 2 + c) / 2 ≡ b = omega arith in
    ap (λ (y : ℕ). y % 2)
    (ap (λ (y : ℕ). (b * 2 + c) / y) (pow-suc 2 i ∙ mul_comm (2 ^ i) 2)
    ∙ (sym (div-div-eq-div-mul (b * 2 + c) 2 (2 ^ i)) ∙ ap (λ (y : ℕ). y / 2 ^ i) half))

-- the bit at a place counted from the lowest
pub binary_bit : (p : ℕ → Bool) (n i : ℕ) → i < n → bit (binary p n) i ≡ one_if (p (n - 1 - i))
unfolding binary
binary_bit p zero i h = absurd (omega arith)
binary_bit p (suc n) zero h =
    let e : n ≡ suc n - 1 - 0 = omega arith in
    double_low (binary p n) (one_if (p n)) (one_if_small (p n)) ∙ ap (λ (k : ℕ). one_if (p k)) e
binary_bit p (suc n) (suc i) h =
    let e : n - 1 - i ≡ suc n - 1 - suc i = omega arith in
    double_high (binary p n) (one_if (p n)) i (one_if_small (p n)) ∙ (binary_bit p n i (omega arith) ∙ ap (λ (k : ℕ). one_if (p k)) e)

pub binary_past : (p : ℕ → Bool) (n i : ℕ) → n ≤ i → bit (binary p n) i ≡ 0
unfolding binary
binary_past p zero i h = bit_zero i
binary_past p (suc n) zero h = absurd (omega arith)
binary_past p (suc n) (suc i) h = double_high (binary p n) (one_if (p n)) i (one_if_small (p n)) ∙ binary_past p n i (omega arith)

-- document 01: highest bit first
pub symbol_bit : (test : ℕ → Bool) (field : List ℕ) (from j : ℕ) → j < 64
    → bit (symbol_word test field from) (63 - j) ≡ one_if (test (get_or field (from + j) 0))
unfolding symbol_word
symbol_bit test field from j h =
    let e : 64 - 1 - (63 - j) ≡ j = omega arith in
    binary_bit (λ (k : ℕ). test (get_or field (from + k) 0)) 64 (63 - j) (omega arith) ∙ ap (λ (k : ℕ). one_if (test (get_or field (from + k) 0))) e

-- document 01: the rest of a pattern uncared for, of a key 0: past the field's end every bit of value and mask is 0
pub rest_zero : (zeros : Bool) (field : List ℕ) (from j : ℕ) → j < 64 → length field ≤ from + j → bit (symbol_word (bit_of zeros) field from) (63 - j) ≡ 0
rest_zero zeros field from j h past = symbol_bit (bit_of zeros) field from j h ∙ sym (bit_past zeros field (from + j) past)

-- a symbol that is not cared for has no value bit
uncared : (b : ℕ) → one_if (mask_bit b) ≡ 0 → one_if (value_bit b) ≡ 0
uncared b = by (eqb b 48) (eqb b 49)
  where
    by : (zero one : Bool) → one_if (zero || one) ≡ 0 → one_if one ≡ 0
    by true true h = h
    by true false h = refl
    by false one h = h

-- so that a value bit outside the mask is 0
pub word_inside : (field : List ℕ) (from i : ℕ) → bit (symbol_word mask_bit field from) i ≡ 0 → bit (symbol_word value_bit field from) i ≡ 0
unfolding symbol_word
word_inside field from i = by (dec_lt i 64)
  where
    test : (ℕ → Bool) → ℕ → Bool
    test t k = t (get_or field (from + k) 0)

    by : Dec (i < 64) → bit (binary (test mask_bit) 64) i ≡ 0 → bit (binary (test value_bit) 64) i ≡ 0
    by (yes h) e = binary_bit (test value_bit) 64 i h ∙ uncared (get_or field (from + (64 - 1 - i)) 0) (sym (binary_bit (test mask_bit) 64 i h) ∙ e)
    by (no h) e = binary_past (test value_bit) 64 i (omega arith)

-- past its 64 bits a word has none
word_past : (test : ℕ → Bool) (field : List ℕ) (from i : ℕ) → 64 ≤ i → bit (symbol_word test field from) i ≡ 0
unfolding symbol_word
word_past test field from i h = binary_past (λ (k : ℕ). test (get_or field (from + k) 0)) 64 i h

one_if_true : (b : Bool) → one_if b ≡ 1 → b ≡ true
one_if_true true e = refl
one_if_true false e = absurd (omega arith)

one_if_same : (a b : Bool) → one_if a ≡ one_if b → a ≡ b
one_if_same true true e = refl
one_if_same true false e = absurd (omega arith)
one_if_same false true e = absurd (omega arith)
one_if_same false false e = refl

-- what the symbols ask of a key is what the words of value and mask ask of its word
pub word_asks : (pattern key : List ℕ) (from : ℕ)
    → ((i : ℕ) → bit (symbol_word mask_bit pattern from) i ≡ 1 → bit (symbol_word value_bit key from) i ≡ bit (symbol_word value_bit pattern from) i)
    ↔ Asks pattern key from 64
word_asks pattern key from = (there, λ g i m. back g i m (dec_lt i 64))
  where
    there : ((i : ℕ) → bit (symbol_word mask_bit pattern from) i ≡ 1 → bit (symbol_word value_bit key from) i ≡ bit (symbol_word value_bit pattern from) i)
        → Asks pattern key from 64
    there f k h m =
        one_if_same (value_bit (get_or key (from + k) 0)) (value_bit (get_or pattern (from + k) 0))
        (sym (symbol_bit value_bit key from k h) ∙ (f (63 - k) (symbol_bit mask_bit pattern from k h ∙ ap one_if m) ∙ symbol_bit value_bit pattern from k h))

    back : Asks pattern key from 64 → (i : ℕ) → bit (symbol_word mask_bit pattern from) i ≡ 1 → Dec (i < 64)
        → bit (symbol_word value_bit key from) i ≡ bit (symbol_word value_bit pattern from) i
    back g i m (no h) = let none = word_past mask_bit pattern from i (omega arith) in absurd (omega (arith, none, m))
    back g i m (yes h) =
        let e : i ≡ 63 - (63 - i) = omega arith in
        let here : (test : ℕ → Bool) (field : List ℕ) → bit (symbol_word test field from) i ≡ one_if (test (get_or field (from + (63 - i)) 0)) =
        λ test field. ap (bit (symbol_word test field from)) e ∙ symbol_bit test field from (63 - i) (omega arith) in
        let same = g (63 - i) (omega arith) (one_if_true (mask_bit (get_or pattern (from + (63 - i)) 0)) (sym (here mask_bit pattern) ∙ m)) in
        here value_bit key ∙ (ap one_if same ∙ sym (here value_bit pattern))
