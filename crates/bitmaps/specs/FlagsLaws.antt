-- Laws on the bits of 2 ^ s, of a complement, of a word with one bit set, cleared or turned, and on the highest bit.
-- ternary/specs/BitLaws has those of and, or, xor.
use Rattle.std.specs.Prelude.{◌≡◌, refl, ◌⊎◌, List, ℕ, zero, suc, ◌+◌, ◌-◌, ◌*◌, ◌/◌, ◌%◌, ◌^◌, ◌<◌, ◌≤◌, min, length, get_or, set}
use Rattle.std.proofs.Common.{sym, ap, ap₂, ◌∙◌, mod-eq_of_lt, pow-suc, lt_of_lt_of_le, one-mul, arith, get_or-set_same, get_or-set_other, pow_pos, pow-add, pow_mono}
use Rattle.std.proofs.Math.Logic.◌⊎◌.{inl, inr}
use Rattle.std.proofs.Math.Nat.{div_self, div-eq_of_lt, mul-mod_left, div-eq_of_lt-le}
use Rattle.std.proofs.Math.Decide.{ℕ_discrete, dec_lt}
use Rattle.std.proofs.Math.Pow.{pow-lt}
use Rattle.std.proofs.lemmas.Nat.{shl-shr, and_mask, leading_top}
use Rattle.std.specs.Int.Bits.{bit_and, bit_xor, differ, xor_add_and}
use Rattle.std.proofs.lemmas.Nat.Bits.{and_high}
use Rattle.std.specs.Int.Count.{count_leading_zeros}
use Rattle.ternary.specs.Bit.{bit}
use Rattle.ternary.proofs.BitLaws.{bit_lt, bit_and_lem, bit_or_lem, bit_xor_lem}
use Rattle.bitmaps.specs.Flags.{flipped, except, with_bit, turned, cleared, Top, marked}

-- a number below 2 ^ i has no bit from i on
pub bit_high : (x i : ℕ) → x < 2 ^ i → bit x i ≡ 0
unfolding bit
bit_high x i h = ap (λ (y : ℕ). y % 2) (div-eq_of_lt h)

-- the bits of 2 ^ s
pub bit_same : (s : ℕ) → bit (2 ^ s) s ≡ 1
unfolding bit
bit_same s = ap (λ (y : ℕ). y % 2) (div_self (pow_pos s))

bit_below : (s i : ℕ) → i < s → bit (2 ^ s) i ≡ 0
unfolding bit
bit_below s i h =
    let e : s ≡ suc (s - suc i) + i = omega arith in
    ap (λ (k : ℕ). 2 ^ k / 2 ^ i % 2) e
    ∙ (ap (λ (y : ℕ). y / 2 ^ i % 2) (pow-add 2 (suc (s - suc i)) i)
    ∙ (ap (λ (y : ℕ). y % 2) (shl-shr (2 ^ suc (s - suc i)) i)
    ∙ (ap (λ (y : ℕ). y % 2) (pow-suc 2 (s - suc i)) ∙ mul-mod_left (2 ^ (s - suc i)) 2)))

pub bit_other : (s i : ℕ) → (i ≡ s → ⊥) → bit (2 ^ s) i ≡ 0
bit_other s i n = pick (dec_lt i s)
  where
    pick : Dec (i < s) → bit (2 ^ s) i ≡ 0
    pick (yes h) = bit_below s i h
    pick (no h) = let l : s < i = omega arith in bit_high (2 ^ s) i (pow-lt l)

-- the bits of k ones
pub bit_ones : (k i : ℕ) → i < k → bit (2 ^ k - 1) i ≡ 1
bit_ones k i h =
    let m = bit_and_lem (2 ^ i) (2 ^ k - 1) i in
    let e : bit (bit_and (2 ^ i) (2 ^ k - 1)) i ≡ bit (2 ^ i) i = ap (λ (x : ℕ). bit x i) (and_mask (2 ^ i) k ∙ mod-eq_of_lt (pow-lt h)) in
    let s = bit_same i in
    let l = bit_lt (2 ^ k - 1) i in
    omega arith

-- the complement is exclusive-or with ones
pub flip_xor : (k x : ℕ) → x < 2 ^ k → (2 ^ k - 1) - x ≡ bit_xor x (2 ^ k - 1)
flip_xor k x h =
    let a = xor_add_and x (2 ^ k - 1) in
    let e : bit_and x (2 ^ k - 1) ≡ x = and_mask x k ∙ mod-eq_of_lt h in
    omega arith

pub bit_flipped : (x i : ℕ) → x < 2 ^ 64 → i < 64 → bit (flipped x) i ≡ 1 - bit x i
unfolding flipped
bit_flipped x i h l =
    ap (λ (y : ℕ). bit y i) (flip_xor 64 x h)
    ∙ (bit_xor_lem x (2 ^ 64 - 1) i ∙ (ap (λ (y : ℕ). differ (bit x i) y) (bit_ones 64 i l) ∙ one (bit x i) (bit_lt x i)))
  where
    one : (d : ℕ) → d < 2 → differ d 1 ≡ 1 - d
    one zero h = refl
    one (suc zero) h = refl
    one (suc (suc d)) h = absurd (omega arith)

-- the bits of x that y lacks
pub bit_except : (x y i : ℕ) → y < 2 ^ 64 → i < 64 → bit (except x y) i ≡ min (bit x i) (1 - bit y i)
unfolding except
bit_except x y i h l = bit_and_lem x (flipped y) i ∙ ap (λ (z : ℕ). min (bit x i) z) (bit_flipped y i h l)

-- a bit leaves with y exactly where y has it
pub except_left : (x y i : ℕ) → y < 2 ^ 64 → i < 64 → bit x i ≡ 1 → bit (except x y) i ≡ 0 → bit y i ≡ 1
except_left x y i h l a b = let e = bit_except x y i h l in let k = bit_lt y i in omega arith

pub except_was : (x y i : ℕ) → bit (except x y) i ≡ 1 → bit x i ≡ 1
unfolding except
except_was x y i h = let a = bit_and_lem x (flipped y) i in let b = bit_lt x i in omega arith

-- one bit set
pub with_same : (x s : ℕ) → bit (with_bit x s) s ≡ 1
unfolding with_bit
with_same x s = let e = bit_or_lem x (2 ^ s) s in let f = bit_same s in let l = bit_lt x s in omega arith

pub with_other : (x s i : ℕ) → (i ≡ s → ⊥) → bit (with_bit x s) i ≡ bit x i
unfolding with_bit
with_other x s i n = let e = bit_or_lem x (2 ^ s) i in let f = bit_other s i n in omega arith

pub with_was : (x s i : ℕ) → bit (with_bit x s) i ≡ 1 → (i ≡ s) ⊎ (bit x i ≡ 1)
with_was x s i e = pick (ℕ_discrete i s)
  where
    pick : Dec (i ≡ s) → (i ≡ s) ⊎ (bit x i ≡ 1)
    pick (yes q) = inl q
    pick (no n) = inr (sym (with_other x s i n) ∙ e)

-- one bit cleared
pub cleared_other : (x s i : ℕ) → s < 64 → i < 64 → (i ≡ s → ⊥) → bit (cleared x s) i ≡ bit x i
unfolding cleared
cleared_other x s i h l n =
    let e = bit_except x (2 ^ s) i (pow-lt h) l in
    let f = bit_other s i n in
    let k = bit_lt x i in
    omega arith

pub cleared_was : (x s i : ℕ) → bit (cleared x s) i ≡ 1 → bit x i ≡ 1
unfolding cleared
cleared_was x s i e = except_was x (2 ^ s) i e

-- one bit turned
differ_none : (d : ℕ) → differ d 0 ≡ d
differ_none zero = refl
differ_none (suc d) = refl

pub turned_other : (x s i : ℕ) → (i ≡ s → ⊥) → bit (turned x s) i ≡ bit x i
unfolding turned
turned_other x s i n =
    bit_xor_lem x (2 ^ s) i ∙ (ap (λ (y : ℕ). differ (bit x i) y) (bit_other s i n) ∙ differ_none (bit x i))

pub turned_same : (x s : ℕ) → bit x s ≡ 1 → bit (turned x s) s ≡ 0
unfolding turned
turned_same x s h = bit_xor_lem x (2 ^ s) s ∙ ap₂ differ h (bit_same s)

-- one bit of x, cut out by and
pub and_bit : (x s : ℕ) → bit_and x (2 ^ s) ≡ bit x s * 2 ^ s
unfolding bit
and_bit x s =
    let p = pow-add 2 1 s in
    let e : 2 ^ (1 + s) - 2 ^ s ≡ 2 ^ s = omega arith in
    ap (λ (y : ℕ). bit_and x y) (sym e) ∙ and_high x 1 s

-- a set bit is turned by a difference, so that the word falls
set_within : (x s : ℕ) → bit x s ≡ 1 → bit_and x (2 ^ s) ≡ 2 ^ s
set_within x s h = and_bit x s ∙ (ap (λ (y : ℕ). y * 2 ^ s) h ∙ one-mul (2 ^ s))

pub turned_difference : (x s : ℕ) → bit x s ≡ 1 → (2 ^ s ≤ x) × (x - 2 ^ s ≡ turned x s)
unfolding turned
turned_difference x s h =
    let a = xor_add_and x (2 ^ s) in
    let e = set_within x s h in
    (omega arith, omega arith)

pub turned_less : (x s : ℕ) → bit x s ≡ 1 → turned x s < x
turned_less x s h =
    let d = turned_difference x s h in
    omega (arith, d.0, d.1, pow_pos s)

pub top_law : (x : ℕ) → 0 < x → x < 2 ^ 64 → Top x (63 - count_leading_zeros 64 x)
unfolding bit
top_law x p h =
    let t = leading_top 64 x p h in
    let j = t.0 in
    let e : 63 - count_leading_zeros 64 x ≡ j = (let q = t.1 in omega arith) in
    rw e (record {
      below = (let q = t.1 in omega arith);
      hit = hit_at_lem x j t.2 t.3;
      above = λ i l. bit_high x i (lt_of_lt_of_le t.3 (pow_mono l));
    })
  where
    hit_at_lem : (x j : ℕ) → 2 ^ j ≤ x → x < 2 ^ suc j → bit x j ≡ 1
    hit_at_lem x j lo hi =
        let p = pow-suc 2 j in
        let a : 1 * 2 ^ j ≤ x = omega arith in
        let b : x < (1 + 1) * 2 ^ j = omega arith in
        ap (λ (y : ℕ). y % 2) (div-eq_of_lt-le (2 ^ j) a b)

-- a bit of marked words is that of the place, or was there
pub data Marked (words : List ℕ) (j b s : ℕ) : Type 0 where
  new : b ≡ j / 64 → s ≡ j % 64 → bit (get_or (marked words j) b 0) s ≡ 1 → Marked words j b s
  old : (b ≡ j / 64 → s ≡ j % 64 → ⊥) → bit (get_or (marked words j) b 0) s ≡ bit (get_or words b 0) s → Marked words j b s

pub marked_bit : (words : List ℕ) (j : ℕ) → j / 64 < length words → (b s : ℕ) → Marked words j b s
unfolding marked
marked_bit words j room b s = by (ℕ_discrete b (j / 64)) (ℕ_discrete s (j % 64))
  where
    word : ℕ
    word = with_bit (get_or words (j / 64) 0) (j % 64)

    here : b ≡ j / 64 → get_or (set words (j / 64) word) b 0 ≡ word
    here q = ap (λ (x : ℕ). get_or (set words (j / 64) word) x 0) q ∙ get_or-set_same words (j / 64) word 0 room

    by : Dec (b ≡ j / 64) → Dec (s ≡ j % 64) → Marked words j b s
    by (yes q) (yes r) =
        new q r (ap (λ (x : ℕ). bit x s) (here q) ∙ (ap (λ (x : ℕ). bit word x) r ∙ with_same (get_or words (j / 64) 0) (j % 64)))
    by (yes q) (no n) =
        old (λ _ e. n e) (ap (λ (x : ℕ). bit x s) (here q)
        ∙ (with_other (get_or words (j / 64) 0) (j % 64) s n ∙ ap (λ (x : ℕ). bit (get_or words x 0) s) (sym q)))
    by (no n) d = old (λ e _. n e) (ap (λ (x : ℕ). bit x s) (get_or-set_other words (j / 64) b word 0 n))
