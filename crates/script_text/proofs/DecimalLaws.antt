-- End theorems on numbers in decimal: a number's digits, read back, are the number.
use Rattle.std.specs.Prelude.{◌≡◌, refl, Bool, true, cond, List, [], ◌∷◌, ◌++◌, ℕ, zero, suc, ◌+◌, ◌-◌, ◌*◌, ◌/◌, ◌%◌, ◌^◌, ◌≤◌, ◌<◌, leb, ltb, length}
use Rattle.std.proofs.Common.{sym, ap, ◌∙◌, arith, length-append, pow-suc, mul_assoc, mul-le-mul_right, lt-ltb, le-ltb, le-leb, leb-true}
use Rattle.std.proofs.Math.Decide.{dec_lt}
use Rattle.std.proofs.Math.Nat.{pow-succ'}
use Rattle.search.specs.SearchLaws.{and_both, and_left, and_right}
use Rattle.script_text.specs.Decimal.{decimal_on, digits_of, digit, digits_in, decimal, every}

-- Turns beyond the number change nothing.
turns_enough : (k l n : ℕ) → n < k → n < l → digits_in k n ≡ digits_in l n
unfolding digits_in
turns_enough zero l n h g = absurd (omega arith)
turns_enough (suc k) zero n h g = absurd (omega arith)
turns_enough (suc k) (suc l) n h g = by (dec_lt n 10) (turns_enough k l (n / 10))
  where
    by : Dec (n < 10) → (n / 10 < k → n / 10 < l → digits_in k (n / 10) ≡ digits_in l (n / 10))
        → cond (ltb n 10) ((48 + n) ∷ []) (digits_in k (n / 10) ++ (48 + n % 10) ∷ [])
        ≡ cond (ltb n 10) ((48 + n) ∷ []) (digits_in l (n / 10) ++ (48 + n % 10) ∷ [])
    by (yes s) r = rw (lt-ltb n 10 s)
    by (no s) r = rw (le-ltb n 10 (omega arith), r (omega arith) (omega arith))

-- A number below 10 is one digit; another has the digits of its tenth, and then its last.
pub digits_one : (n : ℕ) → n < 10 → digits_of n ≡ (48 + n) ∷ []
unfolding digits_of digits_in
digits_one n h = rw (lt-ltb n 10 h)

pub digits_more : (n : ℕ) → 10 ≤ n → digits_of n ≡ digits_of (n / 10) ++ (48 + n % 10) ∷ []
unfolding digits_of digits_in
digits_more n h = rw (le-ltb n 10 h, turns_enough n (suc (n / 10)) (n / 10) (omega arith) (omega arith))

decimal_append : (n : ℕ) (x : List ℕ) (d : ℕ) → decimal_on n (x ++ d ∷ []) ≡ decimal_on n x * 10 + (d - 48)
unfolding decimal_on
decimal_append n [] d = refl
decimal_append n (b ∷ x) d = decimal_append (n * 10 + (b - 48)) x d

-- A number's digits read back are the number.
read_in : (turns n : ℕ) → n < turns → decimal (digits_in turns n) ≡ n
unfolding digits_in decimal_on
read_in zero n h = absurd (omega arith)
read_in (suc turns) n h = by (dec_lt n 10) (read_in turns (n / 10))
  where
    by : Dec (n < 10) → (n / 10 < turns → decimal (digits_in turns (n / 10)) ≡ n / 10)
        → decimal (cond (ltb n 10) ((48 + n) ∷ []) (digits_in turns (n / 10) ++ (48 + n % 10) ∷ [])) ≡ n
    by (yes s) r = rw (lt-ltb n 10 s) (omega arith)
    by (no s) r = rw (le-ltb n 10 (omega arith), decimal_append 0 (digits_in turns (n / 10)) (48 + n % 10), r (omega arith)) (omega arith)

pub digits_read : (n : ℕ) → decimal (digits_of n) ≡ n
unfolding digits_of
digits_read n = read_in (suc n) n (omega arith)

every_append : (p : ℕ → Bool) (x : List ℕ) (b : ℕ) → every p x ≡ true → p b ≡ true → every p (x ++ b ∷ []) ≡ true
unfolding every
every_append p [] b h e = and_both (p b) true e refl
every_append p (a ∷ x) b h e = and_both (p a) _ (and_left (p a) _ h) (every_append p x b (and_right (p a) _ h) e)

-- What is printed can be read: digits, at least one, and no more of them than powers of ten reach.
digit_of : (n : ℕ) → n < 10 → digit (48 + n) ≡ true
digit_of n h = and_both (leb 48 (48 + n)) _ (le-leb 48 (48 + n) (omega arith)) (le-leb (48 + n) 57 (omega arith))

all_in : (turns n : ℕ) → every digit (digits_in turns n) ≡ true
unfolding digits_in every
all_in zero n = refl
all_in (suc turns) n = by (dec_lt n 10) (all_in turns (n / 10))
  where
    by : Dec (n < 10) → every digit (digits_in turns (n / 10)) ≡ true
        → every digit (cond (ltb n 10) ((48 + n) ∷ []) (digits_in turns (n / 10) ++ (48 + n % 10) ∷ [])) ≡ true
    by (yes s) r = rw (lt-ltb n 10 s) (and_both (digit (48 + n)) true (digit_of n s) refl)
    by (no s) r = rw (le-ltb n 10 (omega arith)) (every_append digit (digits_in turns (n / 10)) (48 + n % 10) r (digit_of (n % 10) (omega arith)))

pub digits_digits : (n : ℕ) → every digit (digits_of n) ≡ true
unfolding digits_of
digits_digits n = all_in (suc n) n

pub digits_some : (n : ℕ) → 1 ≤ length (digits_of n)
digits_some n = by (dec_lt n 10)
  where
    by : Dec (n < 10) → 1 ≤ length (digits_of n)
    by (yes s) = rw (digits_one n s) (omega arith)
    by (no s) = rw (digits_more n (omega arith)) (simp length-append (omega arith))

pub digits_few : (m n : ℕ) → n < 10 ^ suc m → length (digits_of n) ≤ suc m
digits_few zero n h = rw (digits_one n (omega arith)) (omega arith)
digits_few (suc m) n h = by (dec_lt n 10) (digits_few m (n / 10))
  where
    by : Dec (n < 10) → (n / 10 < 10 ^ suc m → length (digits_of (n / 10)) ≤ suc m) → length (digits_of n) ≤ suc (suc m)
    by (yes s) r = rw (digits_one n s) (omega arith)
    by (no s) r =
        rw (digits_more n (omega arith)) (simp length-append (let g = r (let e = pow-suc 10 (suc m) in omega (arith, e)) in omega arith))

-- A text of m digits means a number below the m-th power of ten, and what is read first only grows.
pub decimal_grows : (n : ℕ) (x : List ℕ) → n ≤ decimal_on n x
unfolding decimal_on
decimal_grows n [] = omega arith
decimal_grows n (d ∷ ds) = omega (arith, decimal_grows (n * 10 + (d - 48)) ds)

pub decimal_below : (n : ℕ) (x : List ℕ) → every digit x ≡ true → decimal_on n x < (n + 1) * 10 ^ length x
unfolding decimal_on every
decimal_below n [] h = omega arith
decimal_below n (d ∷ ds) h =
    let small : d ≤ 57 = leb-true d 57 (and_right (leb 48 d) _ (and_left (digit d) _ h)) in
    let rest = decimal_below (n * 10 + (d - 48)) ds (and_right (digit d) _ h) in
    let more : (n * 10 + (d - 48) + 1) * 10 ^ length ds ≤ (n + 1) * 10 * 10 ^ length ds = mul-le-mul_right (10 ^ length ds) (omega arith) in
    let power : (n + 1) * 10 * 10 ^ length ds ≡ (n + 1) * 10 ^ suc (length ds) = mul_assoc (n + 1) 10 _ ∙ ap (λ (k : ℕ). (n + 1) * k) (sym (pow-succ' 10 (length ds))) in
    omega (arith, rest, more, power)

-- one digit more than its tenth
pub digits_longer : (n : ℕ) → 10 ≤ n → length (digits_of n) ≡ length (digits_of (n / 10)) + 1
digits_longer n h = ap length (digits_more n h) ∙ length-append (digits_of (n / 10)) ((48 + n % 10) ∷ [])
