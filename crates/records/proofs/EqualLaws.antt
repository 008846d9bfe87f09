-- End theorems on equal rules: what is equal, and that in a sound table a rule that is sent again ties with no other and is not crossed.
-- A rule equal to one that stands, with an id that does not stand, may take its place.
use Rattle.std.specs.Prelude.{◌≡◌, Bool, ◌&&◌, ◌↔◌, ◌≢◌, List, ℕ, ◌+◌, ◌*◌, ◌-◌, ◌<◌, eqb}
use Rattle.std.proofs.Math.Path.{refl}
use Rattle.std.proofs.Common.{sym, ap, ap₂, ◌∙◌, true≢false, arith, eqb-true, eq-eqb}
use Rattle.std.proofs.Math.Bool.{true, false, not}
use Rattle.std.proofs.Math.Decide.{ℕ_discrete, dec_lt}
use Rattle.std.proofs.lemmas.Bool.{not-true, not-false}
use Rattle.search.specs.SearchLaws.{and_law, all_law}
use Rattle.ternary.specs.Bit.{bit}
use Rattle.ternary.specs.Pattern.{Words, Overlap}
use Rattle.ternary.proofs.PatternLaws.{overlaps_law, overlaps_cong}
use Rattle.records.specs.Record.{slot_words, value, mask, ident, action, rank, occupied}
use Rattle.records.specs.Order.{slots, overlapping, distinct, compared, same_id, tied, precedes, misordered, Overlapping, same_pattern, equal_rule, replaceable, EqualRules, Replaceable}
use Rattle.records.specs.Checks.{check_twice, check_order}
use Rattle.records.proofs.Laws.{same_id_law, tied_law, precedes_law, misordered_law, precedes_misordered, ordered_law, order_law, twice_law}
use Rattle.records.proofs.EntriesLaws.{refuted, same_id_turned, compared_turned}
use Rattle.records.proofs.InsertsLaws.{tied_turned}
use Rattle.records.specs.Verdict.{Pass}

-- the test, in words
pub equal_law : (w : ℕ) (a b : Words) → (equal_rule w a b ≡ true) ↔ EqualRules w a b
unfolding equal_rule same_pattern
equal_law w a b =
    let whole = and_law (same_pattern w a b && eqb (rank w a) (rank w b)) (occupied w a && occupied w b) in
    let left = and_law (same_pattern w a b) (eqb (rank w a) (rank w b)) in
    let right = and_law (occupied w a) (occupied w b) in
    let words = all_law (λ (j : ℕ). eqb (a j) (b j)) (2 * w) in (
      λ e. let p = whole.0 e in
          let l = left.0 p.0 in
          let r = right.0 p.1 in
          record {
            first = r.0;
            second = r.1;
            values = λ j h. eqb-true _ _ (words.0 l.0 j (omega arith));
            masks = λ j h. eqb-true _ _ (words.0 l.0 (w + j) (omega arith));
            ranks = eqb-true _ _ l.1;
          },
      λ q. whole.1 (left.1 (words.1 (λ j h. same q j h (dec_lt j w)), eq-eqb _ _ q.ranks), right.1 (q.first, q.second)),
    )
  where
    same : EqualRules w a b → (j : ℕ) → j < 2 * w → Dec (j < w) → eqb (a j) (b j) ≡ true
    same q j h (yes l) = eq-eqb _ _ (q.values j l)
    same q j h (no l) =
        let at : w + (j - w) ≡ j = omega arith in
        eq-eqb _ _ (ap a (sym at) ∙ (q.masks (j - w) (omega arith) ∙ ap b at))

-- the same of a pair of which the one replaces the other
pub replaceable_law : (w : ℕ) (u : Bool) (a b : Words) → (replaceable w u a b ≡ true) ↔ Replaceable w u a b
unfolding replaceable
replaceable_law w u a b =
    let whole = and_law (not (u && not (eqb (action w a) (action w b)))) (equal_rule w a b) in
    let law = equal_law w a b in
    let actions = agree_law u (action w a) (action w b) in (
      λ e. let p = whole.0 e in record { equal = law.0 p.1; actions = actions.0 p.0 },
      λ r. whole.1 (actions.1 r.actions, law.1 r.equal),
    )
  where
    agree_law : (asked : Bool) (m n : ℕ) → (not (asked && not (eqb m n)) ≡ true) ↔ (asked ≡ true → m ≡ n)
    agree_law false m n = (λ e named. absurd (true≢false (sym named)), λ f. refl)
    agree_law true m n = (λ e named. eqb-true m n (not-false (eqb m n) (not-true (not (eqb m n)) e)), λ f. rw (eq-eqb m n (f refl)))

-- what is equal overlaps, and so ties, in a counted table, if the ids differ
module _ (w : ℕ) (x y : Words) (equal : EqualRules w x y) where
  equal_overlap : Overlap w (value x) (mask w x) (value y) (mask w y)
  equal_overlap j h i clash = clash.2 (ap (λ (v : ℕ). bit v i) (equal.values j h))

  pub equal_overlapping : overlapping w x y ≡ true
  equal_overlapping = (overlaps_law w (value x) (mask w x) (value y) (mask w y)).1 equal_overlap

  pub equal_tied : ident w x ≢ ident w y → tied w false x y ≡ true
  equal_tied apart =
      (tied_law w false x y).1 ((equal.first, equal.second, apart, equal_overlap, λ named. absurd (true≢false (sym named))), equal.ranks)

  -- what overlaps the one overlaps the other
  overlaps_alike : (z : Words) → (overlapping w z y ≡ overlapping w z x) × (overlapping w y z ≡ overlapping w x z)
  overlaps_alike z =
      let v : (j : ℕ) → j < w → value y j ≡ value x j = λ j h. sym (equal.values j h) in
      let m : (j : ℕ) → j < w → mask w y j ≡ mask w x j = λ j h. sym (equal.masks j h) in
      (overlaps_cong w (λ j h. refl) (λ j h. refl) v m, overlaps_cong w v m (λ j h. refl) (λ j h. refl))

-- x stands, and y may replace it: a rule that is compared with the one as with the other stands to both alike
module _ (w : ℕ) (u : Bool) (x y : Words) (equal : EqualRules w x y) (z : Words)
    (alike : (compared w u z y ≡ compared w u z x) × (compared w u y z ≡ compared w u x z)) where
  pub misordered_alike : (misordered w u z y ≡ misordered w u z x) × (misordered w u y z ≡ misordered w u x z)
  unfolding misordered
  misordered_alike = let o = overlaps_alike w x y equal z in let r = equal.ranks in (rw (o.0, alike.0, r), rw (o.1, alike.1, r))

  pub tied_alike : tied w u z y ≡ tied w u z x
  unfolding tied
  tied_alike = let o = overlaps_alike w x y equal z in let r = equal.ranks in rw (o.0, alike.0, r)

  pub precedes_alike : (precedes w u z y ≡ precedes w u z x) × (precedes w u y z ≡ precedes w u x z)
  unfolding precedes
  precedes_alike = let o = overlaps_alike w x y equal z in let r = equal.ranks in (rw (o.0, alike.0, r), rw (o.1, alike.1, r))

-- a rule of an id that does not stand, and slot s of a table that passes checks 3 and 4, whose rule it may replace
module _ (w : ℕ) (u : Bool) (t : List ℕ) (twice : check_twice w t ≡ Pass) (order : check_order w u t ≡ Pass) (new : Words)
    (fresh : (i : ℕ) → i < slots w t → same_id w (slot_words w t i) new ≡ false)
    (s : ℕ) (inside : s < slots w t) (replaced : Replaceable w u (slot_words w t s) new) where
  abbrev at : ℕ → Words
  at i = slot_words w t i

  abbrev equal : EqualRules w (at s) new
  equal = replaced.equal

  ordered : (x y : ℕ) → x < y → y < slots w t → misordered w u (at x) (at y) ≡ false
  ordered x y l h = (ordered_law w u (at x) (at y)).1 ((order_law w u t).0 order x y l h)

  -- the id of each other slot is neither the new one nor that of slot s
  once : (i : ℕ) → i < slots w t → i ≢ s → same_id w (at i) (at s) ≡ false
  once i h other = pick (dec_lt i s)
    where
      pick : Dec (i < s) → same_id w (at i) (at s) ≡ false
      pick (yes l) = (twice_law w t).0 twice i s l inside
      pick (no l) = same_id_turned w (at i) (at s) ∙ (twice_law w t).0 twice s i (omega arith) h

  -- two rules, not of one id, are distinct
  apart : (a b : Words) → occupied w b ≡ true → same_id w a b ≡ false → distinct w a b ≡ occupied w a
  unfolding distinct same_id
  apart a b o e = tests (eqb (ident w a) (ident w b)) (occupied w a) (occupied w b) o e
    where
      tests : (one p q : Bool) → q ≡ true → one && (p && q) ≡ false → not one && (p && q) ≡ p
      tests true true q o e = absurd (true≢false (sym o ∙ e))
      tests true false q o e = refl
      tests false true q o e = o
      tests false false q o e = refl

  -- the new rule's action is that of slot s where that is asked
  actions_alike : (i : ℕ) → not (u && eqb (action w (at i)) (action w new)) ≡ not (u && eqb (action w (at i)) (action w (at s)))
  actions_alike i = pick u replaced.actions
    where
      pick : (asked : Bool) → (asked ≡ true → action w (at s) ≡ action w new)
          → not (asked && eqb (action w (at i)) (action w new)) ≡ not (asked && eqb (action w (at i)) (action w (at s)))
      pick false same = refl
      pick true same = ap (λ (n : ℕ). not (eqb (action w (at i)) n)) (sym (same refl))

  alike : (i : ℕ) → i < slots w t → i ≢ s
      → (compared w u (at i) new ≡ compared w u (at i) (at s)) × (compared w u new (at i) ≡ compared w u (at s) (at i))
  alike i h other =
      let same = ap₂ ◌&&◌ (actions_alike i) (apart (at i) new equal.second (fresh i h) ∙ sym (apart (at i) (at s) equal.first (once i h other))) in
      (same, compared_turned w u new (at i) ∙ (same ∙ compared_turned w u (at i) (at s)))

  -- in its place the rule stands in order
  pub equal_ordered : (i : ℕ) → i < slots w t
      → (i < s → misordered w u (at i) new ≡ false) × (s < i → misordered w u new (at i) ≡ false)
  equal_ordered i h = (
    λ l. (misordered_alike w u (at s) new equal (at i) (alike i h (λ e. omega arith))).0 ∙ ordered i s l inside,
    λ l. (misordered_alike w u (at s) new equal (at i) (alike i h (λ e. omega arith))).1 ∙ ordered s i l h,
  )

  -- it ties with no other rule
  pub equal_untied : (i : ℕ) → i < slots w t → i ≢ s → tied w u (at i) new ≡ false
  equal_untied i h other = tied_alike w u (at s) new equal (at i) (alike i h other) ∙ refuted (λ e. level ((tied_law w u (at i) (at s)).0 e) (dec_lt i s))
    where
      level : Overlapping w u (at i) (at s) × (rank w (at i) ≡ rank w (at s)) → Dec (i < s) → ⊥
      level (o, r) (yes l) = true≢false (sym ((misordered_law w u (at i) (at s)).1 (o, omega (arith, r))) ∙ ordered i s l inside)
      level (o, r) (no l) =
          let turned = (tied_law w u (at s) (at i)).0 (sym (tied_turned w u (at i) (at s)) ∙ (tied_law w u (at i) (at s)).1 (o, r)) in
          true≢false (sym ((misordered_law w u (at s) (at i)).1 (turned.0, omega (arith, r))) ∙ ordered s i (omega arith) h)

  -- what precedes it stands before that slot, and what depends on it after: so it is not crossed
  pub equal_after : (i : ℕ) → i < slots w t → precedes w u (at i) new ≡ true → i < s
  equal_after i h p = pick (ℕ_discrete i s) (dec_lt i s)
    where
      pick : Dec (i ≡ s) → Dec (i < s) → i < s
      pick (yes e) l = absurd (omega (arith, ((precedes_law w u (at i) new).0 p).1, equal.ranks, ap (λ (k : ℕ). rank w (at k)) e))
      pick (no e) (yes l) = l
      pick (no e) (no l) =
          let before = sym (precedes_alike w u (at s) new equal (at i) (alike i h e)).0 ∙ p in
          absurd (true≢false (sym (precedes_misordered w u (at i) (at s) before).0 ∙ ordered s i (omega arith) h))

  pub equal_before : (i : ℕ) → i < slots w t → precedes w u new (at i) ≡ true → s < i
  equal_before i h p = pick (ℕ_discrete i s) (dec_lt s i)
    where
      pick : Dec (i ≡ s) → Dec (s < i) → s < i
      pick (yes e) l = absurd (omega (arith, ((precedes_law w u new (at i)).0 p).1, equal.ranks, ap (λ (k : ℕ). rank w (at k)) e))
      pick (no e) (yes l) = l
      pick (no e) (no l) =
          let after = sym (precedes_alike w u (at s) new equal (at i) (alike i h e)).1 ∙ p in
          absurd (true≢false (sym (precedes_misordered w u (at s) (at i) after).0 ∙ ordered i s (omega arith) inside))

-- in a counted table no other slot holds one equal to it
pub equal_once : (w : ℕ) (t : List ℕ) (twice : check_twice w t ≡ Pass) (order : check_order w false t ≡ Pass) (new : Words)
    → ((i : ℕ) → i < slots w t → same_id w (slot_words w t i) new ≡ false) → (s : ℕ) → s < slots w t → Replaceable w false (slot_words w t s) new
    → (i : ℕ) → i < slots w t → Replaceable w false (slot_words w t i) new → i ≡ s
equal_once w t twice order new fresh s inside replaced i h other = pick (ℕ_discrete i s)
  where
    named : ident w (slot_words w t i) ≢ ident w new
    named f = true≢false (sym ((same_id_law w (slot_words w t i) new).1 (other.equal.first, other.equal.second, f)) ∙ fresh i h)

    pick : Dec (i ≡ s) → i ≡ s
    pick (yes e) = e
    pick (no e) =
        absurd (true≢false (sym (equal_tied w (slot_words w t i) new other.equal named) ∙ equal_untied w false t twice order new fresh s inside replaced i h e))
