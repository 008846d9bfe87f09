-- Laws on the tests of one word: what each says of every bit position.
use Rattle.std.specs.Prelude.{◌≡◌, refl, true, ◌↔◌, ℕ, zero, suc, ◌^◌, ◌<◌, min, max, eqb}
use Rattle.std.proofs.Common.{sym, ap, ap₂, ◌∙◌, arith, eqb-true, eq-eqb}
use Rattle.std.proofs.Math.Decide.{ℕ_discrete, dec_lt}
use Rattle.std.specs.Int.Bits.{bit_and, bit_xor, differ, and_lt}
use Rattle.std.proofs.lemmas.Nat.{or_lt, xor_lt}
use Rattle.ternary.specs.Bit.{bit}
use Rattle.ternary.proofs.BitLaws.{bit_lt, bit_and_lem, bit_or_lem, bit_xor_lem, zero_bits, bit_ones, bit_past_ones, bit_past}
use Rattle.ternary.specs.Word.{inside, common, agree, both, ones}

-- a test against zero, bit by bit
test_law : (x : ℕ) → (eqb x 0 ≡ true) ↔ ((i : ℕ) → bit x i ≡ 0)
test_law x = (λ e. (zero_bits x).0 (eqb-true x 0 e), λ h. eq-eqb x 0 ((zero_bits x).1 h))

differ_zero : (a b : ℕ) → (differ a b ≡ 0) ↔ (a ≡ b)
differ_zero zero b = (λ e. sym e, λ e. sym e)
differ_zero (suc a) zero = (λ e. e, λ e. e)
differ_zero (suc a) (suc b) = (λ e. ap suc ((differ_zero a b).0 e), λ e. (differ_zero a b).1 (omega arith))

-- one digit of the word that agree tests, and of the one that inside tests
agree_digit : (a b m : ℕ) → m < 2 → (min (differ a b) m ≡ 0) ↔ (m ≡ 1 → a ≡ b)
agree_digit a b zero h = (λ e f. absurd (omega arith), λ f. omega arith)
agree_digit a b (suc m) h =
    let one : m ≡ 0 = omega arith in
    (λ e f. (differ_zero a b).0 (omega arith), λ f. let z : differ a b ≡ 0 = (differ_zero a b).1 (f (omega arith)) in omega arith)

inside_digit : (v m : ℕ) → v < 2 → m < 2 → (differ (min v m) v ≡ 0) ↔ (m ≡ 0 → v ≡ 0)
inside_digit v m h k = (
  λ e f. let same : min v m ≡ v = (differ_zero (min v m) v).0 e in omega arith,
  λ f. (differ_zero (min v m) v).1 (pick (ℕ_discrete m 0) f),
)
  where
    pick : Dec (m ≡ 0) → (m ≡ 0 → v ≡ 0) → min v m ≡ v
    pick (yes e) f = let z : v ≡ 0 = f e in omega arith
    pick (no e) f = omega arith

-- agree: at each bit of m the two are equal
pub agree_law : (a b m : ℕ) → (agree a b m ≡ true) ↔ ((i : ℕ) → bit m i ≡ 1 → bit a i ≡ bit b i)
unfolding agree
agree_law a b m = (
  λ e i. (agree_digit (bit a i) (bit b i) (bit m i) (bit_lt m i)).0 (sym (at i) ∙ (test_law word).0 e i),
  λ h. (test_law word).1 (λ i. at i ∙ (agree_digit (bit a i) (bit b i) (bit m i) (bit_lt m i)).1 (h i)),
)
  where
    word : ℕ
    word = bit_and (bit_xor a b) m

    at : (i : ℕ) → bit (bit_and (bit_xor a b) m) i ≡ min (differ (bit a i) (bit b i)) (bit m i)
    at i = bit_and_lem (bit_xor a b) m i ∙ ap (λ (x : ℕ). min x (bit m i)) (bit_xor_lem a b i)

-- inside: at each bit outside m, v is 0
pub inside_law : (v m : ℕ) → (inside v m ≡ true) ↔ ((i : ℕ) → bit m i ≡ 0 → bit v i ≡ 0)
unfolding inside
inside_law v m = (
  λ e i. (inside_digit (bit v i) (bit m i) (bit_lt v i) (bit_lt m i)).0 (sym (at i) ∙ (test_law word).0 e i),
  λ h. (test_law word).1 (λ i. at i ∙ (inside_digit (bit v i) (bit m i) (bit_lt v i) (bit_lt m i)).1 (h i)),
)
  where
    word : ℕ
    word = bit_xor (bit_and v m) v

    at : (i : ℕ) → bit (bit_xor (bit_and v m) v) i ≡ differ (min (bit v i) (bit m i)) (bit v i)
    at i = bit_xor_lem (bit_and v m) v i ∙ ap (λ (x : ℕ). differ x (bit v i)) (bit_and_lem v m i)

-- so each bit of v is one of m
pub inside_set : (v m : ℕ) → (inside v m ≡ true) ↔ ((i : ℕ) → bit v i ≡ 1 → bit m i ≡ 1)
inside_set v m = (
  λ e i set. pick i set (ℕ_discrete (bit m i) 0) ((inside_law v m).0 e i),
  λ h. (inside_law v m).1 (λ i z. unset i z (ℕ_discrete (bit v i) 0) (h i)),
)
  where
    pick : (i : ℕ) → bit v i ≡ 1 → Dec (bit m i ≡ 0) → (bit m i ≡ 0 → bit v i ≡ 0) → bit m i ≡ 1
    pick i set (yes z) f = absurd (omega (arith, set, f z))
    pick i set (no z) f = omega (arith, bit_lt m i)

    unset : (i : ℕ) → bit m i ≡ 0 → Dec (bit v i ≡ 0) → (bit v i ≡ 1 → bit m i ≡ 1) → bit v i ≡ 0
    unset i z (yes e) f = e
    unset i z (no e) f = absurd (omega (arith, z, f (omega (arith, bit_lt v i))))

-- every bit of a word is set exactly when all bits are inside it
pub full_word_law : (m : ℕ) → (inside ones m ≡ true) ↔ ((i : ℕ) → i < 64 → bit m i ≡ 1)
full_word_law m = (
  λ e i h. set i (λ z. let f = sym (bit_ones i h) ∙ (inside_law ones m).0 e i z in omega arith),
  λ f. (inside_law ones m).1 (λ i z. unset i z (dec_lt i 64) f),
)
  where
    set : (i : ℕ) → (bit m i ≡ 0 → ⊥) → bit m i ≡ 1
    set i f = pick (ℕ_discrete (bit m i) 0)
      where
        pick : Dec (bit m i ≡ 0) → bit m i ≡ 1
        pick (yes z) = absurd (f z)
        pick (no z) = omega (arith, bit_lt m i)

    unset : (i : ℕ) → bit m i ≡ 0 → Dec (i < 64) → ((j : ℕ) → j < 64 → bit m j ≡ 1) → bit ones i ≡ 0
    unset i z (yes l) f = absurd (omega (arith, f i l))
    unset i z (no l) f = bit_past_ones i (omega arith)

-- a bit is cared for by both exactly when each cares for it
pub both_law : (m n i : ℕ) → (bit (both m n) i ≡ 1) ↔ ((bit m i ≡ 1) × (bit n i ≡ 1))
unfolding both
both_law m n i =
    let e = bit_and_lem m n i in
    let l = bit_lt m i in
    let r = bit_lt n i in
    (λ f. (omega arith, omega arith), λ f. omega arith)

-- one digit of the common key
common_digit : (v m w n : ℕ) → v < 2 → w < 2 → n < 2 → m ≡ 1 → (n ≡ 1 → v ≡ w) → max (min v m) (min w n) ≡ v
common_digit v m w zero a b c e f = omega arith
common_digit v m w (suc n) a b c e f = let g : v ≡ w = f (omega arith) in omega arith

bit_common : (v m w n i : ℕ) → bit (common v m w n) i ≡ max (min (bit v i) (bit m i)) (min (bit w i) (bit n i))
unfolding common
bit_common v m w n i =
    bit_or_lem (bit_and v m) (bit_and w n) i
    ∙ (ap (λ (x : ℕ). max x (bit (bit_and w n) i)) (bit_and_lem v m i)
    ∙ ap (λ (x : ℕ). max (min (bit v i) (bit m i)) x) (bit_and_lem w n i))

-- the common key agrees with each of two values that agree at the bits of both masks
pub common_left : (v m w n : ℕ) → agree v w (both m n) ≡ true → agree (common v m w n) v m ≡ true
common_left v m w n e =
    (agree_law (common v m w n) v m).1
    (λ i h. bit_common v m w n i
    ∙ common_digit (bit v i) (bit m i) (bit w i) (bit n i) (bit_lt v i) (bit_lt w i) (bit_lt n i) h
    (λ k. (agree_law v w (both m n)).0 e i ((both_law m n i).1 (h, k))))

pub common_right : (v m w n : ℕ) → agree v w (both m n) ≡ true → agree (common v m w n) w n ≡ true
common_right v m w n e =
    (agree_law (common v m w n) w n).1
    (λ i h. let l = bit_lt v i in let r = bit_lt w i in
    bit_common v m w n i
    ∙ (let c : max (min (bit v i) (bit m i)) (min (bit w i) (bit n i)) ≡ max (min (bit w i) (bit n i)) (min (bit v i) (bit m i)) = omega arith in c)
    ∙ common_digit (bit w i) (bit n i) (bit v i) (bit m i) r l (bit_lt m i) h
    (λ k. sym ((agree_law v w (both m n)).0 e i ((both_law m n i).1 (k, h)))))

-- and it is a word where the values are
pub common_fits : (k v m w n : ℕ) → v < 2 ^ k → w < 2 ^ k → m < 2 ^ k → n < 2 ^ k → common v m w n < 2 ^ k
unfolding common
common_fits k v m w n a b c d = or_lt k (bit_and v m) (bit_and w n) (and_lt k v m a c) (and_lt k w n b d)

-- a key that agrees with w at each bit of n, and differs from v at every other: v, w and n have 64 bits
unfoldable pub stray : ℕ → ℕ → ℕ → ℕ
stray v w n = common w n (bit_xor ones v) (bit_xor ones n)

-- a bit that is set in a word of 64 bits is one of them
set_inside : (m i : ℕ) → m < 2 ^ 64 → bit m i ≡ 1 → i < 64
set_inside m i h e = pick (dec_lt i 64)
  where
    pick : Dec (i < 64) → i < 64
    pick (yes l) = l
    pick (no l) = absurd (omega (arith, e, bit_past 64 m i h (omega arith)))

-- the digits of the stray key
bit_turned : (x i : ℕ) → i < 64 → bit (bit_xor ones x) i ≡ differ 1 (bit x i)
bit_turned x i h = bit_xor_lem ones x i ∙ ap (λ (y : ℕ). differ y (bit x i)) (bit_ones i h)

bit_stray : (v w n i : ℕ) → i < 64 → bit (stray v w n) i ≡ max (min (bit w i) (bit n i)) (min (differ 1 (bit v i)) (differ 1 (bit n i)))
unfolding stray
bit_stray v w n i h =
    bit_common w n (bit_xor ones v) (bit_xor ones n) i
    ∙ ap₂ (λ (x y : ℕ). max (min (bit w i) (bit n i)) (min x y)) (bit_turned v i h) (bit_turned n i h)

-- it agrees with w at the bits of n, ..
stray_cared : (v w n : ℕ) → v < 2 → w < 2 → n ≡ 1 → max (min w n) (min (differ 1 v) (differ 1 n)) ≡ w
stray_cared v w zero a b e = absurd (omega arith)
stray_cared v w (suc zero) a b e = omega arith
stray_cared v w (suc (suc n)) a b e = absurd (omega arith)

pub stray_agrees : (v w n : ℕ) → n < 2 ^ 64 → agree (stray v w n) w n ≡ true
stray_agrees v w n h =
    (agree_law (stray v w n) w n).1
    (λ i e. bit_stray v w n i (set_inside n i h e) ∙ stray_cared (bit v i) (bit w i) (bit n i) (bit_lt v i) (bit_lt w i) e)

-- .. and with v at the bits of m only if n has each of these bits, and w the value that v has there
stray_elsewhere : (n v w : ℕ) → v < 2 → w < 2 → n < 2 → max (min w n) (min (differ 1 v) (differ 1 n)) ≡ v → (n ≡ 1) × (v ≡ w)
stray_elsewhere zero zero w a b c e = absurd (omega arith)
stray_elsewhere zero (suc zero) w a b c e = absurd (omega arith)
stray_elsewhere zero (suc (suc v)) w a b c e = absurd (omega arith)
stray_elsewhere (suc zero) v w a b c e = (refl, sym e ∙ stray_cared v w 1 a b refl)
stray_elsewhere (suc (suc n)) v w a b c e = absurd (omega arith)

pub stray_covered : (v w m n : ℕ) → m < 2 ^ 64 → agree (stray v w n) v m ≡ true → (i : ℕ) → bit m i ≡ 1 → (bit n i ≡ 1) × (bit v i ≡ bit w i)
stray_covered v w m n h e i c =
    stray_elsewhere (bit n i) (bit v i) (bit w i) (bit_lt v i) (bit_lt w i) (bit_lt n i)
    (sym (bit_stray v w n i (set_inside m i h c)) ∙ (agree_law (stray v w n) v m).0 e i c)

pub stray_fits : (v w n : ℕ) → v < 2 ^ 64 → w < 2 ^ 64 → n < 2 ^ 64 → stray v w n < 2 ^ 64
unfolding stray
stray_fits v w n a b c = common_fits 64 w n (bit_xor ones v) (bit_xor ones n) b (xor_lt 64 ones v all a) c (xor_lt 64 ones n all c)
  where
    all : ones < 2 ^ 64
    all = omega arith
