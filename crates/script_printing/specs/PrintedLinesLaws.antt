-- Laws on printed lines: how long they can get: at most 5 digits for 16 bits, 10 for 32 bits, 20 for 64 bits.
use Rattle.std.specs.Prelude.{◌≡◌, [], ◌∷◌, ℕ, ◌+◌, ◌≤◌, ◌<◌, length}
use Rattle.std.proofs.Common.{arith, length-append}
use Rattle.script_text.specs.Decimal.{digits_of}
use Rattle.script_text.proofs.DecimalLaws.{digits_few}
use Rattle.script_printing.specs.PrintedLines.{printed}

-- digits of numbers of 16, 32 and 64 bits
pub digits_5 : (n : ℕ) → n < 65536 → length (digits_of n) ≤ 5
digits_5 n h = digits_few 4 n (omega arith)

pub digits_10 : (n : ℕ) → n < 4294967296 → length (digits_of n) ≤ 10
digits_10 n h = digits_few 9 n (omega arith)

pub digits_20 : (n : ℕ) → n < 18446744073709551616 → length (digits_of n) ≤ 20
digits_20 n h = digits_few 19 n (omega arith)

-- a line of one, two and three numbers
pub length_one : (letter a : ℕ) → length (printed letter (a ∷ [])) ≡ 3 + length (digits_of a)
length_one letter a = simp length-append (omega arith)

pub length_two : (letter a b : ℕ) → length (printed letter (a ∷ b ∷ [])) ≡ 4 + length (digits_of a) + length (digits_of b)
length_two letter a b = simp length-append (omega arith)

pub length_three : (letter a b c : ℕ) → length (printed letter (a ∷ b ∷ c ∷ [])) ≡ 5 + length (digits_of a) + length (digits_of b) + length (digits_of c)
length_three letter a b c = simp length-append (omega arith)
