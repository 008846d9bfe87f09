-- End theorems on a neighbour list after a write to one slot: each slot's number, by the test that the code makes of it, is that of the table after the write.
-- Nothing is asked of the table's order, of ties or of ids: only that every slot but one holds what it held.
use Rattle.std.specs.Prelude.{◌≡◌, Bool, ◌&&◌, ◌||◌, ◌⊎◌, List, eqb, ltb, leb}
use Rattle.std.proofs.Math.Path.{refl, ap, subst}
use Rattle.std.proofs.Common.{sym, ◌∙◌}
use Rattle.std.proofs.Math.Bool.{true, false, not, cond, true≢false}
use Rattle.std.proofs.lemmas.Bool.{false≢true}
use Rattle.std.proofs.Math.Logic.◌⊎◌.{inl, inr}
use Prim.Native.Nat.{ℕ, suc, ◌+◌, ◌-◌, ◌≤◌, ◌<◌}
use Rattle.std.proofs.Math.Decide.{dec_lt, ℕ_discrete}
use native.Mathlib.Omega.{arith}
use borrow.Author.Tests.{ne_eqb, eqb-false, lt-ltb, le-ltb, le-leb, lt-leb}
use Rattle.search.specs.Search.{least, Least}
use Rattle.search.specs.SearchLaws.{decided, and_both, all_law, least_law, least_cong}
use Rattle.ternary.proofs.PatternLaws.{overlaps_law, overlap_turned}
use Rattle.ternary.specs.Pattern as P
use Rattle.ternary.specs.Pattern.{Words}
use Rattle.positions.specs.Positions.{slot_at}
use Rattle.positions.proofs.PositionsLaws.{slot_below}
use Rattle.records.specs.Record.{slot_words, value, mask, rank, empty}
use Rattle.records.specs.Order.{slots, overlapping, compared, precedes, overlap_at}
use Rattle.records.proofs.EntriesLaws.{refuted, precedes_cong}
use Rattle.neighbour_lists.proofs.PairLaws.{pair_apart, pair_falling, pattern_apart, precedes_empty}
use Rattle.list_updates.specs.Updates.{bounded_by, bounded_at, number_along, found_from, nearest_from, may_overlap, reaches_slot, asks_number}
use Rattle.list_updates.specs.Updates.{BeforeWrite}
use Rattle.list_updates.specs.SearchesLaws.{bound_stays, bound_here, bound_after, bound_past, number_found}

-- of two rules of falling ranks, whether they overlap and are compared tells whether the first precedes the second
pub precedes_told : (w : ℕ) (u : Bool) (a b : Words) {r : Bool} → r ≡ overlapping w a b && compared w u a b → rank w b < rank w a → r ≡ precedes w u a b
precedes_told w u a b {r} told falls = by (decided r)
  where
    by : (r ≡ true) ⊎ (r ≡ false) → r ≡ precedes w u a b
    by (inl e) = e ∙ sym (pair_falling w u a b told e falls).1
    by (inr e) = e ∙ sym (pair_apart w u a b told e).1

-- patterns that the first two words tell apart: neither rule precedes the other
module _ (w : ℕ) (t : List ℕ) (wide : 2 ≤ w) (i j : ℕ) (apart : may_overlap w t i j ≡ false) where
  patterns_apart : overlapping w (slot_words w t i) (slot_words w t j) ≡ false
  unfolding P.overlaps
  patterns_apart =
      refuted (λ e.
      let words = (all_law (overlap_at w (slot_words w t i) (slot_words w t j)) w).0 e in
      true≢false (sym (and_both _ _ (words 0 (omega arith)) (words 1 (omega arith))) ∙ apart))

  turned_apart : overlapping w (slot_words w t j) (slot_words w t i) ≡ false
  turned_apart =
      let a = slot_words w t i in
      let b = slot_words w t j in
      refuted (λ e.
      true≢false
      (sym ((overlaps_law w (value a) (mask w a) (value b) (mask w b)).1
      (overlap_turned w (value b) (mask w b) (value a) (mask w a) ((overlaps_law w (value b) (mask w b) (value a) (mask w a)).0 e))) ∙ patterns_apart))

  -- so neither bounds the other, along either direction
  pub apart_unbounded : (u up : Bool) → (bounded_by w u t up i j ≡ false) × (bounded_by w u t up j i ≡ false)
  unfolding bounded_by
  apart_unbounded u true = ((pattern_apart w u _ _ turned_apart).1, (pattern_apart w u _ _ patterns_apart).1)
  apart_unbounded u false = ((pattern_apart w u _ _ patterns_apart).1, (pattern_apart w u _ _ turned_apart).1)

-- an empty slot bounds none, and none bounds it
pub empty_unbounded : (w : ℕ) (u : Bool) (t : List ℕ) (up : Bool) (i j : ℕ) → empty w (slot_words w t j) ≡ true
    → (bounded_by w u t up i j ≡ false) × (bounded_by w u t up j i ≡ false)
unfolding bounded_by
empty_unbounded w u t true i j e = let p = precedes_empty w u (slot_words w t i) (slot_words w t j) e in (p.1, p.0)
empty_unbounded w u t false i j e = let p = precedes_empty w u (slot_words w t i) (slot_words w t j) e in (p.0, p.1)

-- positions and slots, one and the other way
pub slot_turns : (n : ℕ) (up : Bool) (i : ℕ) → i < n → slot_at n up (slot_at n up i) ≡ i
slot_turns n true i h = omega arith
slot_turns n false i h = refl

-- a number that was found at position m, or is none: whether it reaches slot g, and whether it is g
module _ (n : ℕ) (few : n ≤ 1024) (up : Bool) (m g : ℕ) (end : m ≤ n) (within : g < n) where
  abbrev number : ℕ
  number = cond (ltb m n) (slot_at n up m) 65535

  found_number : m < n → number ≡ slot_at n up m
  found_number h = rw (lt-ltb m n h)

  no_number : n ≤ m → number ≡ 65535
  no_number h = rw (le-ltb m n h)

  reach_yes : slot_at n up g ≤ m → reaches_slot up number g ≡ true
  unfolding reaches_slot
  reach_yes h = by up refl (dec_lt m n)
    where
      by : (d : Bool) → up ≡ d → Dec (m < n) → cond (up && not (eqb number 65535)) (leb number g) (leb g number) ≡ true
      by true e (yes l) =
          let f : number ≡ n - suc m = found_number l ∙ ap (λ (b : Bool). slot_at n b m) e in
          let k : n - suc g ≤ m = subst (λ (b : Bool). slot_at n b g ≤ m) e h in
          rw (f, e, ne_eqb (n - suc m) 65535 (λ q. omega arith)) (le-leb (n - suc m) g (omega arith))
      by false e (yes l) =
          let f : number ≡ m = found_number l ∙ ap (λ (b : Bool). slot_at n b m) e in
          let k : g ≤ m = subst (λ (b : Bool). slot_at n b g ≤ m) e h in
          rw (f, e) (le-leb g m k)
      by true e (no l) = rw (no_number (omega arith), e) (le-leb g 65535 (omega arith))
      by false e (no l) = rw (no_number (omega arith), e) (le-leb g 65535 (omega arith))

  reach_no : m < slot_at n up g → reaches_slot up number g ≡ false
  unfolding reaches_slot
  reach_no h = by up refl
    where
      l : m < n
      l = let k = slot_below n up g within in omega arith

      by : (d : Bool) → up ≡ d → cond (up && not (eqb number 65535)) (leb number g) (leb g number) ≡ false
      by true e =
          let f : number ≡ n - suc m = found_number l ∙ ap (λ (b : Bool). slot_at n b m) e in
          let k : m < n - suc g = subst (λ (b : Bool). m < slot_at n b g) e h in
          rw (f, e, ne_eqb (n - suc m) 65535 (λ q. omega arith)) (lt-leb (n - suc m) g (omega arith))
      by false e =
          let f : number ≡ m = found_number l ∙ ap (λ (b : Bool). slot_at n b m) e in
          let k : m < g = subst (λ (b : Bool). m < slot_at n b g) e h in
          rw (f, e) (lt-leb g m k)

  number_at_lem : m ≡ slot_at n up g → number ≡ g
  number_at_lem e = (let k = slot_below n up g within in found_number (omega arith)) ∙ (ap (slot_at n up) e ∙ slot_turns n up g within)

  number_is : number ≡ g → m ≡ slot_at n up g
  number_is e = by (dec_lt m n)
    where
      by : Dec (m < n) → m ≡ slot_at n up g
      by (yes l) = sym (slot_turns n up m l) ∙ ap (slot_at n up) (sym (found_number l) ∙ e)
      by (no l) = absurd (omega (arith, sym (no_number (omega arith)) ∙ e))

-- a write to slot g of a table that was another before
module _ (w : ℕ) (u : Bool) (t : List ℕ) (up : Bool) (g : ℕ) (few : slots w t ≤ 1024) (within : g < slots w t) (old : List ℕ) (before : BeforeWrite w t g old) where
  -- the first position after slot i's at which a slot bounds it
  abbrev first : List ℕ → ℕ → ℕ
  first table i = least (λ (k : ℕ). bounded_by w u table up i (slot_at (slots w t) up k)) (slots w t - suc (slot_at (slots w t) up i)) (suc (slot_at (slots w t) up i))

  first_end : (table : List ℕ) (i : ℕ) → i < slots w t → first table i ≤ slots w t
  first_end table i at =
      let below = slot_below (slots w t) up i at in
      let law = least_law (λ (k : ℕ). bounded_by w u table up i (slot_at (slots w t) up k)) (slots w t - suc (slot_at (slots w t) up i)) (suc (slot_at (slots w t) up i)) in
      let high = law.high in
      omega arith

  now_first : (i : ℕ) → i < slots w t → number_along w u t up i ≡ cond (ltb (first t i) (slots w t)) (slot_at (slots w t) up (first t i)) 65535
  unfolding found_from
  now_first i at = number_found w u t up i at

  old_first : (i : ℕ) → i < slots w t → number_along w u old up i ≡ cond (ltb (first old i) (slots w t)) (slot_at (slots w t) up (first old i)) 65535
  unfolding found_from
  old_first i at =
      number_found w u old up i (let size = before.0 in omega arith)
      ∙ ap (λ (m : ℕ). found_from m up (λ (k : ℕ). bounded_by w u old up i (slot_at m up k)) (suc (slot_at m up i))) before.0

  -- two slots other than g bound each other as before
  bounded_same : (i j : ℕ) → i < slots w t → j < slots w t → (i ≡ g → ⊥) → (j ≡ g → ⊥) → bounded_by w u old up i j ≡ bounded_by w u t up i j
  unfolding bounded_by
  bounded_same i j a b c d = along up
    where
      along : (d : Bool) → bounded_by w u old d i j ≡ bounded_by w u t d i j
      along true = precedes_cong w u (before.1 j b d) (before.1 i a c)
      along false = precedes_cong w u (before.1 i a c) (before.1 j b d)

  position_same : (i : ℕ) → i < slots w t → (i ≡ g → ⊥) → (k : ℕ) → k < slots w t → (k ≡ slot_at (slots w t) up g → ⊥)
      → bounded_by w u old up i (slot_at (slots w t) up k) ≡ bounded_by w u t up i (slot_at (slots w t) up k)
  position_same i at other k h d =
      bounded_same i (slot_at (slots w t) up k) at (slot_below (slots w t) up k h) other (λ e. d (sym (slot_turns (slots w t) up k h) ∙ ap (slot_at (slots w t) up) e))

  -- the number of a slot past the written one stays
  pub past_stays : (i : ℕ) → i < slots w t → slot_at (slots w t) up g < slot_at (slots w t) up i → number_along w u old up i ≡ number_along w u t up i
  past_stays i at past =
      old_first i at
      ∙ (ap (λ (m : ℕ). cond (ltb m (slots w t)) (slot_at (slots w t) up m) 65535)
      (least_cong (slots w t - suc (slot_at (slots w t) up i)) (suc (slot_at (slots w t) up i))
      (λ k l h. let below = slot_below (slots w t) up i at in position_same i at (λ e. omega (arith, ap (slot_at (slots w t) up) e)) k (omega arith) (λ e. omega arith)))
      ∙ sym (now_first i at))

  -- the number of a slot that comes before the written one, which it was before the write
  module _ (i number : ℕ) (at : i < slots w t) (ahead : slot_at (slots w t) up i < slot_at (slots w t) up g) (was : number ≡ number_along w u old up i) where
    told : number ≡ cond (ltb (first old i) (slots w t)) (slot_at (slots w t) up (first old i)) 65535
    told = was ∙ old_first i at

    same : (k : ℕ) → k < slots w t → (k ≡ slot_at (slots w t) up g → ⊥) → bounded_by w u old up i (slot_at (slots w t) up k) ≡ bounded_by w u t up i (slot_at (slots w t) up k)
    same = position_same i at (λ e. omega (arith, ap (slot_at (slots w t) up) e))

    abbrev p : ℕ → Bool
    p k = bounded_by w u old up i (slot_at (slots w t) up k)

    abbrev q : ℕ → Bool
    q k = bounded_by w u t up i (slot_at (slots w t) up k)

    below : slot_at (slots w t) up g < slots w t
    below = slot_below (slots w t) up g within

    -- that it is the one found at this position now
    becomes : {m : ℕ} → first t i ≡ m → cond (ltb m (slots w t)) (slot_at (slots w t) up m) 65535 ≡ number_along w u t up i
    becomes {m} e = sym (now_first i at ∙ ap (λ (k : ℕ). cond (ltb k (slots w t)) (slot_at (slots w t) up k) 65535) e)

    unbounded : bounded_by w u t up i g ≡ false → q (slot_at (slots w t) up g) ≡ false
    unbounded f = ap (bounded_by w u t up i) (slot_turns (slots w t) up g within) ∙ f

    reached : reaches_slot up number g ≡ true → slot_at (slots w t) up g ≤ first old i
    reached e = by (dec_lt (first old i) (slot_at (slots w t) up g))
      where
        by : Dec (first old i < slot_at (slots w t) up g) → slot_at (slots w t) up g ≤ first old i
        by (yes l) =
            absurd (false≢true (sym (reach_no (slots w t) few up (first old i) g (first_end old i at) within l) ∙ (ap (λ (k : ℕ). reaches_slot up k g) (sym told) ∙ e)))
        by (no l) = omega arith

    -- it does not reach the written slot
    pub number_short : reaches_slot up number g ≡ false → number ≡ number_along w u t up i
    number_short e = by (dec_lt (first old i) (slot_at (slots w t) up g))
      where
        by : Dec (first old i < slot_at (slots w t) up g) → number ≡ number_along w u t up i
        by (yes l) = told ∙ becomes (bound_stays p q (slots w t) (suc (slot_at (slots w t) up i)) (slot_at (slots w t) up g) ahead below same l)
        by (no l) =
            absurd (true≢false (sym (reach_yes (slots w t) few up (first old i) g (first_end old i at) within (omega arith)) ∙ (ap (λ (k : ℕ). reaches_slot up k g) (sym told) ∙ e)))

    -- it reaches it, and the written slot bounds slot i now
    pub number_written : reaches_slot up number g ≡ true → bounded_by w u t up i g ≡ true → g ≡ number_along w u t up i
    number_written e b =
        let here = bound_here p q (slots w t) (suc (slot_at (slots w t) up i)) (slot_at (slots w t) up g) ahead below same (reached e) (ap (bounded_by w u t up i) (slot_turns (slots w t) up g within) ∙ b) in
        sym (number_at_lem (slots w t) few up (slot_at (slots w t) up g) g (omega (arith, below)) within refl) ∙ becomes here

    -- it was the written slot, which bounds slot i no more: the next one is searched
    pub number_searched : number ≡ g → bounded_by w u t up i g ≡ false → nearest_from w u t up i (suc (slot_at (slots w t) up g)) ≡ number_along w u t up i
    unfolding found_from
    number_searched e f =
        let is = number_is (slots w t) few up (first old i) g (first_end old i at) within (sym told ∙ e) in
        becomes (bound_after p q (slots w t) (suc (slot_at (slots w t) up i)) (slot_at (slots w t) up g) ahead below same (omega (arith, is)) (unbounded f))

    -- it lies past the written slot, which does not bound slot i
    pub number_kept : reaches_slot up number g ≡ true → (number ≡ g → ⊥) → bounded_by w u t up i g ≡ false → number ≡ number_along w u t up i
    number_kept e d f =
        let far = reached e in
        let past : slot_at (slots w t) up g < first old i = at_most (λ h. d (told ∙ number_at_lem (slots w t) few up (first old i) g (first_end old i at) within h)) far in
        told ∙ becomes (bound_past p q (slots w t) (suc (slot_at (slots w t) up i)) (slot_at (slots w t) up g) ahead below same past (unbounded f))
      where
        at_most : {a b : ℕ} → (a ≡ b → ⊥) → b ≤ a → b < a
        at_most d l = omega arith

    -- a slot that is not asked again
    pub number_unasked : (vacant : Bool) → 2 ≤ w → vacant ≡ empty w (slot_words w t g) → asks_number w t number i g vacant up ≡ false → number ≡ number_along w u t up i
    unfolding asks_number
    number_unasked vacant wide e f = by (decided (reaches_slot up number g))
      where
        left : (a b : Bool) → a || b ≡ false → (a ≡ false) × (b ≡ false)
        left true b h = absurd (true≢false h)
        left false b h = (refl, h)

        rest : not vacant && (reaches_slot up number g && (may_overlap w t i g && not (empty w (slot_words w t i)))) ≡ false
        rest = (left (eqb number g) _ f).1

        either : (v r m n : Bool) → not v && (r && (m && not n)) ≡ false → r ≡ true → (v ≡ true) ⊎ ((m ≡ false) ⊎ (n ≡ true))
        either true r m n h k = inl refl
        either false true false n h k = inr (inl refl)
        either false true true true h k = inr (inr refl)
        either false true true false h k = absurd (true≢false h)
        either false false m n h k = absurd (false≢true k)

        quiet : (vacant ≡ true) ⊎ ((may_overlap w t i g ≡ false) ⊎ (empty w (slot_words w t i) ≡ true)) → bounded_by w u t up i g ≡ false
        quiet (inl v) = (empty_unbounded w u t up i g (sym e ∙ v)).0
        quiet (inr (inl m)) = (apart_unbounded w t wide i g m u up).0
        quiet (inr (inr n)) = (empty_unbounded w u t up g i n).1

        by : (reaches_slot up number g ≡ true) ⊎ (reaches_slot up number g ≡ false) → number ≡ number_along w u t up i
        by (inl r) = number_kept r (eqb-false number g (left (eqb number g) _ f).0) (quiet (either vacant _ _ _ rest r))
        by (inr r) = number_short r

-- a slot that is asked again reaches the written slot
pub asked_reaches : (w : ℕ) (t : List ℕ) (number slot g : ℕ) (vacant up : Bool) → g < 1024 → asks_number w t number slot g vacant up ≡ true → reaches_slot up number g ≡ true
unfolding asks_number reaches_slot
asked_reaches w t number slot g vacant up low e = by (ℕ_discrete number g)
  where
    equal : number ≡ g → (b : Bool) → cond b (leb number g) (leb g number) ≡ true
    equal h true = le-leb number g (omega arith)
    equal h false = le-leb g number (omega arith)

    second : (a v r m : Bool) → a ≡ false → a || (not v && (r && m)) ≡ true → r ≡ true
    second a v true m f h = refl
    second true v false m f h = absurd (true≢false f)
    second false true false m f h = absurd (false≢true h)
    second false false false m f h = absurd (false≢true h)

    by : Dec (number ≡ g) → cond (up && not (eqb number 65535)) (leb number g) (leb g number) ≡ true
    by (yes h) = equal h (up && not (eqb number 65535))
    by (no h) = second (eqb number g) vacant (cond (up && not (eqb number 65535)) (leb number g) (leb g number)) (may_overlap w t slot g && not (empty w (slot_words w t slot))) (ne_eqb number g h) e

-- the written slot's own number, where it was emptied
pub empty_number : (w : ℕ) (u : Bool) (t : List ℕ) (up : Bool) (g : ℕ) → g < slots w t → empty w (slot_words w t g) ≡ true → 65535 ≡ number_along w u t up g
unfolding found_from
empty_number w u t up g within e = sym (number_found w u t up g within ∙ by (dec_lt m (slots w t)))
  where
    m : ℕ
    m = least (bounded_at w u t up g) (slots w t - suc (slot_at (slots w t) up g)) (suc (slot_at (slots w t) up g))

    law : Least (bounded_at w u t up g) (suc (slot_at (slots w t) up g)) (suc (slot_at (slots w t) up g) + (slots w t - suc (slot_at (slots w t) up g))) m
    law = least_law (bounded_at w u t up g) (slots w t - suc (slot_at (slots w t) up g)) (suc (slot_at (slots w t) up g))

    by : Dec (m < slots w t) → cond (ltb m (slots w t)) (slot_at (slots w t) up m) 65535 ≡ 65535
    by (yes l) = absurd (true≢false (sym (law.hit (omega arith)) ∙ (empty_unbounded w u t up (slot_at (slots w t) up m) g e).1))
    by (no l) = rw (le-ltb m (slots w t) (omega arith))
