-- Numbers in decimal: what a text of digits means, and the digits of a number, highest first.
-- One definition for reading and printing.
use Rattle.std.specs.Prelude.{Bool, true, cond, ◌&&◌, List, [], ◌∷◌, ◌++◌, ℕ, zero, suc, ◌+◌, ◌-◌, ◌*◌, ◌/◌, ◌%◌, leb, ltb}

-- the number whose digits, highest first, follow a number already read
unfoldable pub decimal_on : ℕ → List ℕ → ℕ
decimal_on n [] = n
decimal_on n (d ∷ ds) = decimal_on (n * 10 + (d - 48)) ds

-- the number that a text of decimal digits means
abbrev pub decimal : List ℕ → ℕ
decimal digits = decimal_on 0 digits

-- the digits of a number, highest first, as long as there are turns
unfoldable pub digits_in : ℕ → ℕ → List ℕ
digits_in zero n = []
digits_in (suc turns) n =
    let higher = digits_in turns (n / 10) in
    cond (ltb n 10) ((48 + n) ∷ []) (higher ++ (48 + n % 10) ∷ [])

-- the decimal digits of a number, without leading zeros: more turns than it has digits
unfoldable pub digits_of : ℕ → List ℕ
digits_of n = digits_in (suc n) n

-- each byte passes a test
unfoldable pub every : (ℕ → Bool) → List ℕ → Bool
every p [] = true
every p (b ∷ rest) = p b && every p rest

-- a decimal digit, 0 to 9
abbrev pub digit : ℕ → Bool
digit b = leb 48 b && leb b 57
