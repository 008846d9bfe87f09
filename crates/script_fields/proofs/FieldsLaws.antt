-- Laws on fields, one byte more, and how large the numbers read can get.
-- For loops over a field, and for the tests of a number.
use Rattle.std.specs.Prelude.{◌≡◌, Bool, true, false, List, [], ◌∷◌, ℕ, zero, suc, ◌+◌, ◌-◌, ◌*◌, ◌^◌, ◌≤◌, ◌<◌, ltb, length, get_or, drop, None, Some, Result, Ok, Err, OkIff}
use Rattle.std.specs.Result.{result_ok}
use Rattle.std.proofs.Common.{sym, ap, ◌∙◌, ⊎_elim, arith, add-one, pow-suc, drop_of_length-le, pow_mono, drop-cons}
use Rattle.std.proofs.Math.Decide.{dec_lt}
use Rattle.std.proofs.Math.Nat.{pow-le-pow_right}
use Rattle.std.proofs.Math.ListN.{get_or-eq_default}
use borrow.Author.Tests.{lt-ltb, le-ltb, le-leb, lt-leb, ltb-true}
use Rattle.search.specs.SearchLaws.{decided, and_left, and_right}
use Rattle.script_text.specs.Decimal.{every, digit, decimal_on, decimal}
use Rattle.script_text.proofs.DecimalLaws.{decimal_below}
use Rattle.script_fields.specs.Fields.{sized, is_number, number_in, number_option, one_if, bit_of, binary}

module _ (p : ℕ → Bool) (x : List ℕ) where
  pub every_on : (at : ℕ) → at < length x → p (get_or x at 0) ≡ true → every p (drop at x) ≡ every p (drop (at + 1) x)
  unfolding every
  every_on at h e = rw (drop-cons x at 0 h, e, add-one)

  pub every_stop : (at : ℕ) → at < length x → p (get_or x at 0) ≡ false → every p (drop at x) ≡ false
  unfolding every
  every_stop at h e = rw (drop-cons x at 0 h, e)

  pub every_end : (at : ℕ) → length x ≤ at → every p (drop at x) ≡ true
  unfolding every
  every_end at h = rw (drop_of_length-le x {i = at} h)

pub every_at : (p : ℕ → Bool) (x : List ℕ) → every p x ≡ true → (at : ℕ) → at < length x → p (get_or x at 0) ≡ true
unfolding every
every_at p [] e at h = absurd (omega arith)
every_at p (b ∷ x) e zero h = and_left (p b) (every p x) e
every_at p (b ∷ x) e (suc at) h = every_at p x (and_right (p b) (every p x) e) at (omega arith)

pub decimal_on_lem : (n : ℕ) (x : List ℕ) (at : ℕ) → at < length x → decimal_on n (drop at x) ≡ decimal_on (n * 10 + (get_or x at 0 - 48)) (drop (at + 1) x)
unfolding decimal_on
decimal_on_lem n x at h = rw (drop-cons x at 0 h, add-one)

pub decimal_end : (n : ℕ) (x : List ℕ) (at : ℕ) → length x ≤ at → decimal_on n (drop at x) ≡ n
unfolding decimal_on
decimal_end n x at h = rw (drop_of_length-le x {i = at} h)

-- ten digits mean a number below 10^10
pub decimal_small : (x : List ℕ) → length x ≤ 10 → every digit x ≡ true → decimal x < 10000000000
decimal_small x h e =
    let power : 10 ^ length x ≤ 10 ^ 10 = pow-le-pow_right {n = 10} (omega arith) h in
    omega (arith, decimal_below 0 x e, power)

pub one_if_small : (b : Bool) → one_if b ≤ 1
one_if_small true = omega arith
one_if_small false = omega arith

pub binary_below : (p : ℕ → Bool) (n : ℕ) → binary p n < 2 ^ n
unfolding binary
binary_below p zero = omega arith
binary_below p (suc n) = omega (arith, binary_below p n, one_if_small (p n), pow-suc 2 n)

pub binary_half : (p : ℕ → Bool) (n : ℕ) → n < 64 → binary p n < 9223372036854775808
binary_half p n h = let power : 2 ^ n ≤ 2 ^ 63 = pow_mono {i = n} {j = 63} (omega arith) in omega (arith, binary_below p n)

-- The tests of a number, one after the other.
module _ (field : List ℕ) where
  pub number_none : length field < 1 → 4294967296 ≡ number_in field
  unfolding number_in is_number
  number_none h = rw (lt-leb 1 (length field) h)

  pub number_long : 10 < length field → 4294967296 ≡ number_in field
  unfolding number_in is_number
  number_long h = rw (le-leb 1 (length field) (omega arith), lt-leb (length field) 10 h)

  module _ (some : 1 ≤ length field) (few : length field ≤ 10) where
    pub number_other : every digit field ≡ false → 4294967296 ≡ number_in field
    unfolding number_in is_number
    number_other e = rw (le-leb 1 (length field) some, le-leb (length field) 10 few, e)

    pub number_fits : every digit field ≡ true → decimal field < 4294967296 → decimal field ≡ number_in field
    unfolding number_in is_number
    number_fits e h = rw (le-leb 1 (length field) some, le-leb (length field) 10 few, e, lt-ltb (decimal field) 4294967296 h)

    pub number_large : every digit field ≡ true → 4294967296 ≤ decimal field → 4294967296 ≡ number_in field
    unfolding number_in is_number
    number_large e h = rw (le-leb 1 (length field) some, le-leb (length field) 10 few, e, le-ltb (decimal field) 4294967296 h)

  -- the number in a field fits 32 bits exactly where there is one
  pub number_is : is_number field ≡ true → (number_in field ≡ decimal field) × (number_in field < 4294967296)
  unfolding number_in is_number
  number_is e =
      let h = ltb-true (decimal field) 4294967296 (and_right (every digit field) _ (and_right (sized 10 field) _ e)) in
      (rw e, rw e h)

  pub number_not : is_number field ≡ false → number_in field ≡ 4294967296
  unfolding number_in
  number_not e = rw e

-- what the code's number tells: it fits exactly where the field is a number, and then it is that number
pub number_told : (field : List ℕ) (n : ℕ) → n ≡ number_in field → n < 4294967296 → (is_number field ≡ true) × (n ≡ decimal field)
number_told field n e h =
    ⊎_elim (λ t. (t, e ∙ (number_is field t).0)) (λ f. absurd (let g = number_not field f in omega arith)) (decided (is_number field))

pub number_untold : (field : List ℕ) (n : ℕ) → n ≡ number_in field → 4294967296 ≤ n → is_number field ≡ false
number_untold field n e h =
    ⊎_elim (λ t. absurd (let g = number_is field t in omega (arith, g.1))) (λ f. f) (decided (is_number field))

pub number_test : (field : List ℕ) (n : ℕ) → n ≡ number_in field → ltb n 4294967296 ≡ is_number field
number_test field n e =
    ⊎_elim
    (λ t. lt-ltb n 4294967296 (let g = number_is field t in omega (arith, g.1)) ∙ sym t)
    (λ f. le-ltb n 4294967296 (let g = number_not field f in omega arith) ∙ sym f)
    (decided (is_number field))

-- The number as an `Option`: of up to ten digits, by whether a cast to 32 bits keeps it; and what it tells a caller.
pub digits_option : (field : List ℕ) → 1 ≤ length field → length field ≤ 10 → every digit field ≡ true → {E : Type 0} (n : ℕ) → n ≡ decimal field
    → (r : Result ℕ E) → OkIff r (n < 4294967296) n → result_ok r ≡ number_option field
digits_option field some few digits n e (Ok x) fits =
    let same = number_fits field some few digits (omega (arith, fits.0)) in
    rw (← same, lt-ltb (decimal field) 4294967296 (omega (arith, fits.0))) (ap Some (fits.1 ∙ e))
digits_option field some few digits n e (Err d) large =
    by (dec_lt (decimal field) 4294967296)
  where
    by : Dec (decimal field < 4294967296) → None ≡ number_option field
    by (yes h) = absurd (large (omega arith))
    by (no h) = rw (← number_large field some few digits (omega arith))

pub option_some : (field : List ℕ) (n : ℕ) → Some n ≡ number_option field → (n ≡ number_in field) × (n < 4294967296)
option_some field n e = by (dec_lt (number_in field) 4294967296)
  where
    by : Dec (number_in field < 4294967296) → (n ≡ number_in field) × (n < 4294967296)
    by (yes h) =
        let told : Some n ≡ Some (number_in field) = rw (lt-ltb (number_in field) 4294967296 h) at e in
        let same : n ≡ number_in field = cc in
        (same, omega arith)
    by (no h) =
        let told : Some n ≡ None = rw (le-ltb (number_in field) 4294967296 (omega arith)) at e in
        cc

pub option_none : (field : List ℕ) → None ≡ number_option field → 4294967296 ≤ number_in field
option_none field e = by (dec_lt (number_in field) 4294967296)
  where
    by : Dec (number_in field < 4294967296) → 4294967296 ≤ number_in field
    by (yes h) =
        let told : None ≡ Some (number_in field) = rw (lt-ltb (number_in field) 4294967296 h) at e in
        cc
    by (no h) = omega arith

-- past the field's end there is no symbol, and no bit
pub bit_past : (zeros : Bool) (field : List ℕ) (at : ℕ) → length field ≤ at → 0 ≡ one_if (bit_of zeros (get_or field at 0))
bit_past true field at h = rw (get_or-eq_default field 0 {n = at} h)
bit_past false field at h = rw (get_or-eq_default field 0 {n = at} h)
