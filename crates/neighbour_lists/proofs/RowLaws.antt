-- Laws on a row: which slots are behind the walk, one index more seen, a pair's numbers kept, and the step of a row by a slot asked or
-- dropped.
use Rattle.std.specs.Prelude.{◌≡◌, refl, Bool, true, false, ◌||◌, ◌⊎◌, List, ℕ, suc, ◌+◌, ◌-◌, ◌*◌, ◌^◌, ◌<◌, ◌≤◌, eqb, leb, length, get_or, set}
use Rattle.std.proofs.Common.{sym, ◌∙◌, true≢false, add-one, eq-eqb, ne_eqb, le-leb, leb-false}
use Rattle.std.proofs.Math.Path.{ap}
use Rattle.std.proofs.lemmas.Bool.{false≢true, eqb-false, lt-leb, not-true}
use Rattle.std.proofs.Math.Logic.{⊎_elim}
use Rattle.std.proofs.Math.Logic.◌⊎◌.{inl, inr}
use Rattle.std.proofs.Math.Nat.{add-zero}
use Rattle.std.proofs.Math.Decide.{ℕ_discrete, dec_lt}
use native.Mathlib.Omega.{arith}
use Rattle.std.proofs.Math.ListN.{length-set}
use Rattle.std.proofs.Math.Seq.{get_or-set_same, get_or-set_other}
use Rattle.std.proofs.lemmas.List.{set-get_or}
use Rattle.search.specs.SearchLaws.{decided}
use Rattle.ternary.specs.Bit.{bit}
use Rattle.ternary.proofs.BitLaws.{bit_lt, bit_zero}
use Rattle.bitmaps.specs.Flags.{Top, turned}
use Rattle.bitmaps.specs.FlagsLaws.{turned_other, turned_same, turned_less, bit_ones}
use Rattle.neighbour_lists.specs.Row.{keep, first_seen, stage, next_kept, both_kept, asked, settled_pair, NoneYet, LastIs, OutOfOrder, InOrderBehind, InRow, Pairing, Quiet, Skipped, Inside}

-- where a slot stands: in a later block, in block b, in an earlier one
pub stage_later : (b left i : ℕ) → 64 * (b + 1) ≤ i → stage b left i ≡ 1
unfolding stage
stage_later b left i h = rw (le-leb (64 * (b + 1)) i h)

pub stage_here : (b left t : ℕ) → t < 64 → stage b left (64 * b + t) ≡ 1 - bit left t
unfolding stage
stage_here b left t h =
    let l : 64 * b + t < 64 * (b + 1) = omega arith in
    let e : (64 * b + t) - 64 * b ≡ t = omega arith in
    rw (lt-leb (64 * (b + 1)) (64 * b + t) l, le-leb (64 * b) (64 * b + t) (omega arith), e)

pub stage_earlier : (b left i : ℕ) → i < 64 * b → stage b left i ≡ 0
unfolding stage
stage_earlier b left i h =
    let l : i < 64 * (b + 1) = omega arith in
    rw (lt-leb (64 * (b + 1)) i l, lt-leb (64 * b) i h)

pub data Place (b : ℕ) : ℕ → Type 0 where
  later : {i : ℕ} → 64 * (b + 1) ≤ i → Place b i
  here : (t : ℕ) → t < 64 → Place b (64 * b + t)
  earlier : {i : ℕ} → i < 64 * b → Place b i

pub place_of : (b i : ℕ) → Place b i
place_of b i = first (dec_lt i (64 * b))
  where
    second : (i < 64 * b → ⊥) → Dec (i < 64 * (b + 1)) → Place b i
    second n (yes h) =
        let e : 64 * b + (i - 64 * b) ≡ i = omega arith in
        let p : Place b (64 * b + (i - 64 * b)) = here (i - 64 * b) (omega arith) in
        rw e at p
    second n (no h) = later {i = i} (omega arith)

    first : Dec (i < 64 * b) → Place b i
    first (yes h) = earlier h
    first (no h) = second h (dec_lt i (64 * (b + 1)))

-- a bit turned moves its slot alone
stage_other : (b left t i : ℕ) → (i ≡ 64 * b + t → ⊥) → stage b (turned left t) i ≡ stage b left i
stage_other b left t i n = by (place_of b i) n
  where
    by : {i : ℕ} → Place b i → (i ≡ 64 * b + t → ⊥) → stage b (turned left t) i ≡ stage b left i
    by {i} (later h) n = stage_later b (turned left t) i h ∙ sym (stage_later b left i h)
    by (here s h) n =
        stage_here b (turned left t) s h
        ∙ (ap (λ (x : ℕ). 1 - x) (turned_other left t s (λ q. n (ap (λ (x : ℕ). 64 * b + x) q))) ∙ sym (stage_here b left s h))
    by {i} (earlier h) n = stage_earlier b (turned left t) i h ∙ sym (stage_earlier b left i h)

-- all above the highest bit is behind
stage_above : (b left t i : ℕ) → Top left t → 64 * b + t < i → stage b left i ≡ 1
stage_above b left t i top h = by (place_of b i) h
  where
    by : {i : ℕ} → Place b i → 64 * b + t < i → stage b left i ≡ 1
    by {i} (later l) h = stage_later b left i l
    by (here s l) h = stage_here b left s l ∙ ap (λ (x : ℕ). 1 - x) (top.above s (omega arith))
    by (earlier l) h = absurd (omega arith)

-- a block done is the next one begun with every bit
stage_next : (b i : ℕ) → stage b (2 ^ 64 - 1) i ≡ stage (suc b) 0 i
stage_next b i = by (place_of b i)
  where
    done : (s : ℕ) → stage (suc b) 0 (64 * suc b + s) ≡ 1
    done s = at (dec_lt s 64)
      where
        at : Dec (s < 64) → stage (suc b) 0 (64 * suc b + s) ≡ 1
        at (yes h) = stage_here (suc b) 0 s h ∙ ap (λ (x : ℕ). 1 - x) (bit_zero s)
        at (no h) = stage_later (suc b) 0 (64 * suc b + s) (omega arith)

    by : {i : ℕ} → Place b i → stage b (2 ^ 64 - 1) i ≡ stage (suc b) 0 i
    by {i} (later l) =
        let e : 64 * suc b + (i - 64 * suc b) ≡ i = omega arith in
        stage_later b (2 ^ 64 - 1) i l ∙ sym (rw e at (done (i - 64 * suc b)))
    by (here s l) =
        stage_here b (2 ^ 64 - 1) s l ∙ (ap (λ (x : ℕ). 1 - x) (bit_ones 64 s l) ∙ sym (stage_earlier (suc b) 0 (64 * b + s) (omega arith)))
    by {i} (earlier l) = stage_earlier b (2 ^ 64 - 1) i l ∙ sym (stage_earlier (suc b) 0 i (omega arith))

-- a number kept, and one that is there
pub keep_none : (x y : ℕ) → x ≡ 65535 → keep x y ≡ y
unfolding keep
keep_none x y e = rw (eq-eqb x 65535 e)

pub keep_some : (x y : ℕ) → (x ≡ 65535 → ⊥) → keep x y ≡ x
unfolding keep
keep_some x y n = rw (ne_eqb x 65535 n)

-- one index more, which is j
module _ (p : ℕ → Bool) (i j : ℕ) (h : i < j) where
  pub seen_no : p j ≡ false → first_seen p (i + 1) (j - (i + 1) + 1) ≡ first_seen p (i + 1) (j - (i + 1) + 0)
  unfolding first_seen
  seen_no e =
      let f : (i + 1) + (j - (i + 1)) ≡ j = omega arith in
      rw (add-one (j - (i + 1)), add-zero (j - (i + 1)), f, e)

  pub seen_yes : p j ≡ true → first_seen p (i + 1) (j - (i + 1) + 1) ≡ keep (first_seen p (i + 1) (j - (i + 1) + 0)) j
  unfolding first_seen
  seen_yes e =
      let f : (i + 1) + (j - (i + 1)) ≡ j = omega arith in
      rw (add-one (j - (i + 1)), add-zero (j - (i + 1)), f, e)

-- the list after a pair is asked
pub length_asked : (d : Bool) (near : List ℕ) (i j : ℕ) → length (asked d near i j) ≡ length near
unfolding asked both_kept next_kept
length_asked true near i j = simp length-set
length_asked false near i j = refl

module _ (near : List ℕ) (i j : ℕ) (room : 2 * j + 1 < length near) (h : i < j) where
  pub kept_same : get_or (both_kept near i j) (2 * i) 0 ≡ keep (get_or near (2 * i) 0) j
  unfolding both_kept next_kept
  kept_same =
      get_or-set_other (next_kept near i j) (2 * j + 1) (2 * i) (keep (get_or (next_kept near i j) (2 * j + 1) 0) i) 0 (λ e. omega arith)
      ∙ get_or-set_same near (2 * i) (keep (get_or near (2 * i) 0) j) 0 (omega arith)

  pub kept_other : (k : ℕ) → (k ≡ i → ⊥) → get_or (both_kept near i j) (2 * k) 0 ≡ get_or near (2 * k) 0
  unfolding both_kept next_kept
  kept_other k n =
      get_or-set_other (next_kept near i j) (2 * j + 1) (2 * k) (keep (get_or (next_kept near i j) (2 * j + 1) 0) i) 0 (λ e. omega arith)
      ∙ get_or-set_other near (2 * i) (2 * k) (keep (get_or near (2 * i) 0) j) 0 (λ e. n (omega arith))

  kept_last : get_or (both_kept near i j) (2 * j + 1) 0 ≡ keep (get_or near (2 * j + 1) 0) i
  unfolding both_kept next_kept
  kept_last =
      get_or-set_same (next_kept near i j) (2 * j + 1) (keep (get_or (next_kept near i j) (2 * j + 1) 0) i) 0 (simp length-set room)
      ∙ ap (λ (x : ℕ). keep x i) (get_or-set_other near (2 * i) (2 * j + 1) (keep (get_or near (2 * i) 0) j) 0 (λ e. omega arith))

  -- the preceding slots of the slots before slot j stay
  kept_before : (k : ℕ) → k < j → get_or (both_kept near i j) (2 * k + 1) 0 ≡ get_or near (2 * k + 1) 0
  unfolding both_kept next_kept
  kept_before k l =
      get_or-set_other (next_kept near i j) (2 * j + 1) (2 * k + 1) (keep (get_or (next_kept near i j) (2 * j + 1) 0) i) 0 (λ e. omega arith)
      ∙ get_or-set_other near (2 * i) (2 * k + 1) (keep (get_or near (2 * i) 0) j) 0 (λ e. omega arith)

-- a number as the code keeps it: stored where there is none, left where there is one
module _ (near : List ℕ) (i j : ℕ) where
  pub next_stored : get_or near (2 * i) 0 ≡ 65535 → set near (2 * i) j ≡ next_kept near i j
  unfolding next_kept
  next_stored e = rw (keep_none (get_or near (2 * i) 0) j e)

  pub next_left : (get_or near (2 * i) 0 ≡ 65535 → ⊥) → near ≡ next_kept near i j
  unfolding next_kept
  next_left n = rw (keep_some (get_or near (2 * i) 0) j n) (sym (set-get_or near (2 * i) 0))

  pub both_stored : get_or (next_kept near i j) (2 * j + 1) 0 ≡ 65535 → set (next_kept near i j) (2 * j + 1) i ≡ both_kept near i j
  unfolding both_kept
  both_stored e = rw (keep_none (get_or (next_kept near i j) (2 * j + 1) 0) i e)

  pub both_left : (get_or (next_kept near i j) (2 * j + 1) 0 ≡ 65535 → ⊥) → next_kept near i j ≡ both_kept near i j
  unfolding both_kept
  both_left n = rw (keep_some (get_or (next_kept near i j) (2 * j + 1) 0) i n) (sym (set-get_or (next_kept near i j) (2 * j + 1) 0))

  pub length_next : length (next_kept near i j) ≡ length near
  unfolding next_kept
  length_next = simp length-set

  pub asked_yes : {d : Bool} → d ≡ true → both_kept near i j ≡ asked d near i j
  unfolding asked
  asked_yes e = rw e

  pub asked_no : {d : Bool} → d ≡ false → near ≡ asked d near i j
  unfolding asked
  asked_no e = rw e

-- what a settled pair says
settled_says : (near : List ℕ) (i j high rank : ℕ) {r : Bool} → r ≡ settled_pair near i j high rank → r ≡ true
    → (get_or near (2 * i) 0 ≡ 65535 → ⊥) × (get_or near (2 * j + 1) 0 ≡ 65535 → ⊥) × (rank < high)
unfolding settled_pair
settled_says near i j high rank q t = by (decided (eqb (get_or near (2 * j + 1) 0) 65535)) (decided (leb high rank))
  where
    h : settled_pair near i j high rank ≡ true
    h = sym q ∙ t

    by : (eqb (get_or near (2 * j + 1) 0) 65535 ≡ true) ⊎ (eqb (get_or near (2 * j + 1) 0) 65535 ≡ false) → (leb high rank ≡ true) ⊎ (leb high rank ≡ false)
        → (get_or near (2 * i) 0 ≡ 65535 → ⊥) × (get_or near (2 * j + 1) 0 ≡ 65535 → ⊥) × (rank < high)
    by (inl e) f = absurd (false≢true (rw e at h))
    by (inr e) (inl f) = absurd (false≢true (rw (e, f) at h))
    by (inr e) (inr f) = (
      eqb-false (get_or near (2 * i) 0) 65535 (not-true (eqb (get_or near (2 * i) 0) 65535) (rw (e, f) at h)),
      eqb-false (get_or near (2 * j + 1) 0) 65535 e,
      leb-false high rank f,
    )

pub settled_quiet : (prec mis : ℕ → ℕ → Bool) (rank : ℕ → ℕ) (held : ℕ → Bool) (near : List ℕ) (i j r : ℕ) {q : Bool} → Pairing prec mis rank held
    → q ≡ settled_pair near i j (rank i) r → r ≡ rank j → q ≡ true → Quiet prec mis near j i
settled_quiet prec mis rank held near i j r pairing e f t =
    let s = settled_says near i j (rank i) r e t in
    (pairing.falling i j (rw f at s.2), inr (s.0, s.1))

-- no slot is dropped yet; the slot of the highest bit is dropped; what is left is before slot j too
pub skip_none : (prec mis : ℕ → ℕ → Bool) (near : List ℕ) (j b some : ℕ) → Skipped prec mis near j b some some
skip_none prec mis near j b some = record { fewer = omega arith; among = λ s z. z; quiet = λ s o z. absurd (omega arith) }

pub skip_top : (prec mis : ℕ → ℕ → Bool) (near : List ℕ) (j b some left t : ℕ) → Skipped prec mis near j b some left → Top left t
    → Quiet prec mis near j (64 * b + t) → Skipped prec mis near j b some (turned left t)
skip_top prec mis near j b some left t old top q = record {
  fewer = (let f = old.fewer in omega (arith, turned_less left t top.hit));
  among = λ s z. (let e = turned_other left t s (λ p. absurd (let o = top.hit in let n = old.among s z in omega (arith, ap (λ (x : ℕ). bit left x) p))) in omega (arith, e, old.among s z));
  quiet = λ s o z. at s o z (ℕ_discrete s t);
}
  where
    at : (s : ℕ) → bit some s ≡ 1 → bit (turned left t) s ≡ 0 → Dec (s ≡ t) → Quiet prec mis near j (64 * b + s)
    at s o z (yes p) = rw p q
    at s o z (no n) = old.quiet s o (sym (turned_other left t s n) ∙ z)

pub inside_skipped : (prec mis : ℕ → ℕ → Bool) (near : List ℕ) (j b some left : ℕ) → Skipped prec mis near j b some left → Inside j b some → Inside j b left
inside_skipped prec mis near j b some left skip inside s h = at (ℕ_discrete (bit some s) 1)
  where
    at : Dec (bit some s ≡ 1) → 64 * b + s < j
    at (yes q) = inside s q
    at (no n) = absurd (let k = bit_lt some s in let z : bit some s ≡ 0 = omega arith in omega (arith, skip.among s z))

-- the slot of the highest bit is asked
module _ (prec mis : ℕ → ℕ → Bool) (near : List ℕ) (j b left t : ℕ) (bad : Bool) (row : InRow prec mis near j b left bad)
    (small : j < 65535) (room : 2 * j + 1 < length near) (top : Top left t) (below : 64 * b + t < j) where
  was : stage b left (64 * b + t) ≡ 0
  was = stage_here b left t top.below ∙ ap (λ (x : ℕ). 1 - x) top.hit

  is : stage b (turned left t) (64 * b + t) ≡ 1
  is = stage_here b (turned left t) t top.below ∙ ap (λ (x : ℕ). 1 - x) (turned_same left t top.hit)

  -- a test that fails behind, and at this slot, fails behind now
  still : (p : ℕ → ℕ → Bool) → p (64 * b + t) j ≡ false → ((i : ℕ) → i < j → stage b left i ≡ 1 → p i j ≡ false)
      → (i : ℕ) → i < j → stage b (turned left t) i ≡ 1 → p i j ≡ false
  still p e old i h s = at (ℕ_discrete i (64 * b + t))
    where
      at : Dec (i ≡ 64 * b + t) → p i j ≡ false
      at (yes q) = ap (λ (x : ℕ). p x j) q ∙ e
      at (no n) = old i h (sym (stage_other b left t i n) ∙ s)

  ordered : (((mis (64 * b + t) j || bad) ≡ true) × OutOfOrder mis j) ⊎ (((mis (64 * b + t) j || bad) ≡ false) × InOrderBehind mis j b (turned left t))
  ordered =
      ⊎_elim (λ e. inl (rw e, (64 * b + t, below, e)))
      (λ e. ⊎_elim (λ z. inl (rw e z.0, z.1)) (λ z. inr (rw e z.0, still mis e z.1)) row.order)
      (decided (mis (64 * b + t) j))

  ask_no : prec (64 * b + t) j ≡ false → InRow prec mis near j b (turned left t) (mis (64 * b + t) j || bad)
  ask_no e = record {
    next = λ i h. at i h (ℕ_discrete i (64 * b + t));
    last = ⊎_elim (λ z. inl (z.0, still prec e z.1)) (λ z. inr z) row.last;
    order = ordered;
    known = row.known;
  }
    where
      at : (i : ℕ) → i < j → Dec (i ≡ 64 * b + t) → get_or near (2 * i) 0 ≡ first_seen (prec i) (i + 1) (j - (i + 1) + stage b (turned left t) i)
      at i h (yes q) =
          let z : stage b left i ≡ 0 = ap (λ (x : ℕ). stage b left x) q ∙ was in
          let o : stage b (turned left t) i ≡ 1 = ap (λ (x : ℕ). stage b (turned left t) x) q ∙ is in
          rw o ((rw z at (row.next i h)) ∙ sym (seen_no (prec i) i j h (ap (λ (x : ℕ). prec x j) q ∙ e)))
      at i h (no n) = rw (stage_other b left t i n) (row.next i h)

  ask_yes : prec (64 * b + t) j ≡ true → InRow prec mis (both_kept near (64 * b + t) j) j b (turned left t) (mis (64 * b + t) j || bad)
  ask_yes e = record {
    next = λ i h. at i h (ℕ_discrete i (64 * b + t));
    last = inr (⊎_elim none some row.last);
    order = ordered;
    known = λ i h. kept_before near (64 * b + t) j room below i h ∙ row.known i h;
  }
    where
      now : List ℕ
      now = both_kept near (64 * b + t) j

      at : (i : ℕ) → i < j → Dec (i ≡ 64 * b + t) → get_or now (2 * i) 0 ≡ first_seen (prec i) (i + 1) (j - (i + 1) + stage b (turned left t) i)
      at i h (yes q) =
          let z : stage b left i ≡ 0 = ap (λ (x : ℕ). stage b left x) q ∙ was in
          let o : stage b (turned left t) i ≡ 1 = ap (λ (x : ℕ). stage b (turned left t) x) q ∙ is in
          let k : get_or now (2 * i) 0 ≡ keep (get_or near (2 * i) 0) j = rw q (kept_same near (64 * b + t) j room below) in
          rw o (k ∙ (ap (λ (x : ℕ). keep x j) (rw z at (row.next i h)) ∙ sym (seen_yes (prec i) i j h (ap (λ (x : ℕ). prec x j) q ∙ e))))
      at i h (no n) = kept_other near (64 * b + t) j room below i n ∙ rw (stage_other b left t i n) (row.next i h)

      none : NoneYet prec near j b left → LastIs prec now j
      none z =
          let k : get_or now (2 * j + 1) 0 ≡ 64 * b + t = kept_last near (64 * b + t) j room below ∙ keep_none _ _ z.0 in
          (omega arith, rw k e, λ i l h. z.1 i h (stage_above b left t i top (omega arith)))

      some : LastIs prec near j → LastIs prec now j
      some z =
          let k : get_or now (2 * j + 1) 0 ≡ get_or near (2 * j + 1) 0
          = kept_last near (64 * b + t) j room below ∙ keep_some _ _ (λ q. (let l = z.0 in omega arith)) in
          rw k z

  pub ask_row : InRow prec mis (asked (prec (64 * b + t) j) near (64 * b + t) j) j b (turned left t) (mis (64 * b + t) j || bad)
  unfolding asked
  ask_row = ⊎_elim (λ e. rw e (ask_yes e)) (λ e. rw e (ask_no e)) (decided (prec (64 * b + t) j))

-- bits dropped unasked
module _ (prec mis : ℕ → ℕ → Bool) (near : List ℕ) (j b left less : ℕ) (bad : Bool) (row : InRow prec mis near j b left bad)
    (fewer : (s : ℕ) → s < 64 → bit left s ≡ 0 → bit less s ≡ 0)
    (quiet : (s : ℕ) → s < 64 → bit left s ≡ 1 → bit less s ≡ 0 → 64 * b + s < j → Quiet prec mis near j (64 * b + s)) where
  -- where a slot stands after: as before, or newly behind
  moved : (i : ℕ) → i < j → (stage b less i ≡ stage b left i) ⊎ ((stage b left i ≡ 0) × (stage b less i ≡ 1) × Quiet prec mis near j i)
  moved i h = by (place_of b i) h
    where
      bits : (s : ℕ) → s < 64 → 64 * b + s < j → Dec (bit left s ≡ 1) → Dec (bit less s ≡ 1)
          → (stage b less (64 * b + s) ≡ stage b left (64 * b + s))
          ⊎ ((stage b left (64 * b + s) ≡ 0) × (stage b less (64 * b + s) ≡ 1) × Quiet prec mis near j (64 * b + s))
      bits s l h (yes p) (yes q) = inl (let e = stage_here b less s l in let f = stage_here b left s l in omega arith)
      bits s l h (yes p) (no q) =
          let k = bit_lt less s in
          let z : bit less s ≡ 0 = omega arith in
          inr ((let f = stage_here b left s l in omega arith), (let e = stage_here b less s l in omega arith), quiet s l p z h)
      bits s l h (no p) q =
          let k = bit_lt left s in
          let y : bit left s ≡ 0 = omega arith in
          let z = fewer s l y in
          inl (let e = stage_here b less s l in let f = stage_here b left s l in omega arith)

      by : {i : ℕ} → Place b i → i < j → (stage b less i ≡ stage b left i) ⊎ ((stage b left i ≡ 0) × (stage b less i ≡ 1) × Quiet prec mis near j i)
      by {i} (later l) h = inl (stage_later b less i l ∙ sym (stage_later b left i l))
      by (here s l) h = bits s l h (ℕ_discrete (bit left s) 1) (ℕ_discrete (bit less s) 1)
      by {i} (earlier l) h = inl (stage_earlier b less i l ∙ sym (stage_earlier b left i l))

  -- a quiet slot's number is the same with slot j as without
  unmoved : (i : ℕ) → i < j → stage b left i ≡ 0 → Quiet prec mis near j i
      → get_or near (2 * i) 0 ≡ first_seen (prec i) (i + 1) (j - (i + 1) + 1)
  unmoved i h z k =
      let old = rw z at (row.next i h) in
      ⊎_elim
      (λ e. ⊎_elim (λ f. absurd (true≢false (sym e ∙ f)))
      (λ y. sym (keep_some (get_or near (2 * i) 0) j y.0) ∙ (ap (λ (x : ℕ). keep x j) old ∙ sym (seen_yes (prec i) i j h e))) k.1)
      (λ e. old ∙ sym (seen_no (prec i) i j h e))
      (decided (prec i j))

  pub drop_row : InRow prec mis near j b less bad
  drop_row = record {
    next = λ i h. ⊎_elim (λ e. rw e (row.next i h)) (λ m. rw m.1 (unmoved i h m.0 m.2)) (moved i h);
    last = ⊎_elim (λ z. inl (z.0, none z)) (λ z. inr z) row.last;
    order = ⊎_elim (λ z. inl z) (λ z. inr (z.0, in_order z.1)) row.order;
    known = row.known;
  }
    where
      none : NoneYet prec near j b left → (i : ℕ) → i < j → stage b less i ≡ 1 → prec i j ≡ false
      none z i h s =
          ⊎_elim (λ e. z.1 i h (sym e ∙ s)) (λ m. ⊎_elim (λ e. e) (λ k. absurd (k.1 z.0)) m.2.1) (moved i h)

      in_order : InOrderBehind mis j b left → InOrderBehind mis j b less
      in_order z i h s = ⊎_elim (λ e. z i h (sym e ∙ s)) (λ m. m.2.0) (moved i h)

-- a block done, the next one begins with every bit
pub next_block : (prec mis : ℕ → ℕ → Bool) (near : List ℕ) (j b : ℕ) (bad : Bool)
    → InRow prec mis near j (suc b) 0 bad → InRow prec mis near j b (2 ^ 64 - 1) bad
next_block prec mis near j b bad row = record {
  next = λ i h. rw (stage_next b i) (row.next i h);
  last = ⊎_elim (λ z. inl (z.0, λ i h s. z.1 i h (sym (stage_next b i) ∙ s))) (λ z. inr z) row.last;
  order = ⊎_elim (λ z. inl z) (λ z. inr (z.0, λ i h s. z.1 i h (sym (stage_next b i) ∙ s))) row.order;
  known = row.known;
}

pub inside_turned : (j b left t : ℕ) → Inside j b left → bit left t ≡ 1 → Inside j b (turned left t)
inside_turned j b left t h e s f = at (ℕ_discrete s t)
  where
    at : Dec (s ≡ t) → 64 * b + s < j
    at (yes q) = h s (ap (λ (x : ℕ). bit left x) q ∙ e)
    at (no n) = h s (sym (turned_other left t s n) ∙ f)

-- quiet slots dropped
pub skip_row : (prec mis : ℕ → ℕ → Bool) (near : List ℕ) (j b some left : ℕ) (bad : Bool) → InRow prec mis near j b some bad
    → Skipped prec mis near j b some left → InRow prec mis near j b left bad
skip_row prec mis near j b some left bad row skip =
    drop_row prec mis near j b some left bad row (λ s l z. skip.among s z) (λ s l o z h. skip.quiet s o z)
