-- Laws on bits: what the operators of words do at each bit position.
-- A word is 0 exactly when each of its bits is; so a test against zero speaks of every position.
use Rattle.std.specs.Prelude.{◌≡◌, refl, ◌↔◌, ℕ, zero, suc, ◌+◌, ◌*◌, ◌/◌, ◌%◌, ◌^◌, ◌≤◌, ◌<◌, min, max}
use Rattle.std.proofs.Common.{sym, ap₂, ◌∙◌, mod-lt, zero-lt-suc, pow-suc, mul_comm, div-one, lt_of_lt_of_le, arith}
use Rattle.std.proofs.Math.Path.{ap}
use Rattle.std.proofs.Math.Nat.{pow-le-pow_right, zero-div, div-eq_of_lt, div-div-eq-div-mul}
use Rattle.std.specs.Int.Bits.{bit_and, bit_or, bit_xor, and_step, or_step, xor_step, differ}
use Rattle.std.proofs.lemmas.Nat.{and_shr, or_shr, xor_shr}
use Rattle.std.proofs.Math.Arith.{bin_ind}
use Rattle.ternary.specs.Bit.{bit}
use Rattle.ternary.specs.Word.{ones}

pub bit_lt : (x i : ℕ) → bit x i < 2
unfolding bit
bit_lt x i = mod-lt (x / 2 ^ i) (zero-lt-suc 1)

-- the last digit of a number that a step of an operator gives
last_digit : (q d : ℕ) → d < 2 → (q * 2 + d) % 2 ≡ d
last_digit q d h = omega arith

differ_lt : (x y : ℕ) → x < 2 → y < 2 → differ x y < 2
differ_lt zero y hx hy = hy
differ_lt (suc x) zero hx hy = hx
differ_lt (suc x) (suc y) hx hy = differ_lt x y (omega arith) (omega arith)

-- one law for the three operators: op works on digits by f, and passes a shift on
module _
    (op f : ℕ → ℕ → ℕ) (bounded : (x y : ℕ) → x < 2 → y < 2 → f x y < 2)
    (step : (a b : ℕ) → op a b ≡ op (a / 2) (b / 2) * 2 + f (a % 2) (b % 2))
    (shift : (a b k : ℕ) → op a b / 2 ^ k ≡ op (a / 2 ^ k) (b / 2 ^ k)) where
  bit_op : (a b i : ℕ) → bit (op a b) i ≡ f (bit a i) (bit b i)
  unfolding bit
  bit_op a b i =
      ap (λ (x : ℕ). x % 2) (shift a b i ∙ step (a / 2 ^ i) (b / 2 ^ i))
      ∙ last_digit _ _ (bounded _ _ (mod-lt (a / 2 ^ i) (zero-lt-suc 1)) (mod-lt (b / 2 ^ i) (zero-lt-suc 1)))

pub bit_and_lem : (a b i : ℕ) → bit (bit_and a b) i ≡ min (bit a i) (bit b i)
bit_and_lem = bit_op bit_and min (λ x y h k. omega arith) and_step and_shr

pub bit_or_lem : (a b i : ℕ) → bit (bit_or a b) i ≡ max (bit a i) (bit b i)
bit_or_lem = bit_op bit_or max (λ x y h k. omega arith) or_step or_shr

pub bit_xor_lem : (a b i : ℕ) → bit (bit_xor a b) i ≡ differ (bit a i) (bit b i)
bit_xor_lem = bit_op bit_xor differ differ_lt xor_step xor_shr

-- of three words it is the same which two are masked first
pub and_assoc : (a b c : ℕ) → bit_and (bit_and a b) c ≡ bit_and a (bit_and b c)
and_assoc =
    bin_ind (λ (n : ℕ). (b c : ℕ) → bit_and (bit_and n b) c ≡ bit_and n (bit_and b c)) (λ b c. refl)
    (λ n ih b c. and_step (bit_and n b) c
    ∙ (ap₂ (λ (x y : ℕ). bit_and x (c / 2) * 2 + min y (c % 2)) (half n b) (low n b)
    ∙ (ap₂ (λ (x y : ℕ). x * 2 + y) (ih (b / 2) (c / 2)) (omega arith)
    ∙ sym (and_step n (bit_and b c) ∙ ap₂ (λ (x y : ℕ). bit_and (n / 2) x * 2 + min (n % 2) y) (half b c) (low b c)))))
  where
    half : (a b : ℕ) → bit_and a b / 2 ≡ bit_and (a / 2) (b / 2)
    half a b = and_shr a b 1

    low : (a b : ℕ) → bit_and a b % 2 ≡ min (a % 2) (b % 2)
    low a b = ap (λ (x : ℕ). x % 2) (and_step a b) ∙ last_digit _ _ (omega arith)

pub bit_zero : (i : ℕ) → bit 0 i ≡ 0
unfolding bit
bit_zero i = rw zero-div

-- the bits of a half are those of the whole, one up
bit_half : (x i : ℕ) → bit (x / 2) i ≡ bit x (suc i)
unfolding bit
bit_half x i =
    ap (λ (y : ℕ). y % 2)
    (div-div-eq-div-mul x 2 (2 ^ i) ∙ ap (λ (y : ℕ). x / y) (mul_comm 2 (2 ^ i) ∙ sym (pow-suc 2 i)))

bit_low : (x : ℕ) → bit x 0 ≡ x % 2
unfolding bit
bit_low x = rw div-one

-- a number is 0 exactly when each of its bits is
pub zero_bits : (x : ℕ) → (x ≡ 0) ↔ ((i : ℕ) → bit x i ≡ 0)
zero_bits x = (λ e i. ap (λ (y : ℕ). bit y i) e ∙ bit_zero i, from x)
  where
    from : (x : ℕ) → ((i : ℕ) → bit x i ≡ 0) → x ≡ 0
    from =
        bin_ind (λ (n : ℕ). ((i : ℕ) → bit n i ≡ 0) → n ≡ 0) (λ h. refl)
        (λ n ih h. let e : n / 2 ≡ 0 = ih (λ i. bit_half n i ∙ h (suc i)) in let f : n % 2 ≡ 0 = sym (bit_low n) ∙ h 0 in omega arith)

-- the lowest bits set, so many of them
all_bits : ℕ → ℕ
all_bits zero = 0
all_bits (suc k) = 2 * all_bits k + 1

half_of : (x i : ℕ) → bit (2 * x + 1) (suc i) ≡ bit x i
half_of x i = sym (bit_half (2 * x + 1) i) ∙ (let h : (2 * x + 1) / 2 ≡ x = omega arith in ap (λ (y : ℕ). bit y i) h)

set_below : (k i : ℕ) → i < k → bit (all_bits k) i ≡ 1
unfolding all_bits
set_below zero i h = absurd (omega arith)
set_below (suc k) zero h = bit_low (2 * all_bits k + 1) ∙ omega arith
set_below (suc k) (suc i) h = half_of (all_bits k) i ∙ set_below k i (omega arith)

unset_above : (k i : ℕ) → k ≤ i → bit (all_bits k) i ≡ 0
unfolding all_bits
unset_above zero i h = bit_zero i
unset_above (suc k) zero h = absurd (omega arith)
unset_above (suc k) (suc i) h = half_of (all_bits k) i ∙ unset_above k i (omega arith)

-- the bits of a word of 64, all set, and of its number none else
pub bit_ones : (i : ℕ) → i < 64 → bit ones i ≡ 1
unfolding all_bits
bit_ones i h = set_below 64 i h

pub bit_past_ones : (i : ℕ) → 64 ≤ i → bit ones i ≡ 0
unfolding all_bits
bit_past_ones i h = unset_above 64 i h

-- a number below 2^k has no bit from k on
pub bit_past : (k x i : ℕ) → x < 2 ^ k → k ≤ i → bit x i ≡ 0
unfolding bit
bit_past k x i h past = ap (λ (y : ℕ). y % 2) (div-eq_of_lt (lt_of_lt_of_le h (pow-le-pow_right (zero-lt-suc 1) past)))
