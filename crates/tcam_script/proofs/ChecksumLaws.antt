-- End theorems on the checksum: one byte overwritten shows in it, whatever follows.
-- With them one byte and one block more.
use Rattle.std.specs.Prelude.{◌≡◌, refl, ◌≢◌, List, [], ◌∷◌, ◌++◌, ℕ, ◌+◌, ◌*◌, ◌/◌, ◌%◌, ◌<◌, length, get_or, take}
use Rattle.std.proofs.Common.{sym, ap, ◌∙◌, arith, add-one, take-suc}
use Rattle.tcam_script.specs.Checksum.{modulus, checksum_on, checksum_of}

pub checksum_append : (sum : ℕ) (x y : List ℕ) → checksum_on sum (x ++ y) ≡ checksum_on (checksum_on sum x) y
unfolding checksum_on
checksum_append sum [] y = refl
checksum_append sum (b ∷ x) y = checksum_append (sum % modulus * 256 + b) x y

-- one byte more of a list
pub checksum_next : (sum : ℕ) (bytes : List ℕ) (at : ℕ) → at < length bytes
    → checksum_on sum (take at bytes) % modulus * 256 + get_or bytes at 0 ≡ checksum_on sum (take (at + 1) bytes)
unfolding checksum_on
checksum_next sum bytes at h =
    sym
    (ap (λ (n : ℕ). checksum_on sum (take n bytes)) (add-one at)
    ∙ (ap (checksum_on sum) (take-suc bytes at 0 h) ∙ checksum_append sum (take at bytes) (get_or bytes at 0 ∷ [])))

-- sums that differ by the modulus stay so, whatever bytes follow: 256 has an inverse, since the modulus is odd
unique : (x y m n : ℕ) → x < modulus → y < modulus → x + modulus * m ≡ y + modulus * n → x ≡ y
unique x y m n h g e = omega arith

step_apart : (a b byte : ℕ) → a % modulus ≢ b % modulus → (a % modulus * 256 + byte) % modulus ≢ (b % modulus * 256 + byte) % modulus
step_apart a b byte apart e =
    let p = (a % modulus * 256 + byte) / modulus in
    let q = (b % modulus * 256 + byte) / modulus in
    let same : a % modulus + modulus * (a % modulus * 205 + q * 57702370225684476) ≡ b % modulus + modulus * (b % modulus * 205 + p * 57702370225684476) = omega arith in
    apart (unique (a % modulus) (b % modulus) _ _ (omega arith) (omega arith) same)

apart_on : (a b : ℕ) (bytes : List ℕ) → a % modulus ≢ b % modulus → checksum_on a bytes ≢ checksum_on b bytes
unfolding checksum_on
apart_on a b [] apart e = apart (ap (λ (n : ℕ). n % modulus) e)
apart_on a b (c ∷ bytes) apart e = apart_on (a % modulus * 256 + c) (b % modulus * 256 + c) bytes (step_apart a b c apart) e

-- a byte overwritten by another: the checksums differ
pub checksum_shows : (before after : List ℕ) (x y : ℕ) → x < 256 → y < 256 → x ≢ y → checksum_of (before ++ x ∷ after) ≢ checksum_of (before ++ y ∷ after)
unfolding checksum_on
checksum_shows before after x y h g apart e =
    apart_on (checksum_of before % modulus * 256 + x) (checksum_of before % modulus * 256 + y) after (λ same. apart (omega arith))
    (sym (checksum_append 1 before (x ∷ after)) ∙ (e ∙ checksum_append 1 before (y ∷ after)))
