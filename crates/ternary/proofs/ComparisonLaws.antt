-- End theorems on two patterns of any number of words: the comparison tells exactly the four cases, bit by bit and by keys whose words have 64 bits.
use Rattle.std.specs.Prelude.{◌≡◌, refl, Bool, true, false, ◌&&◌, cond, ◌↔◌, ℕ}
use Rattle.std.proofs.Common.{sym, ap, ◌∙◌, subst, true≢false}
use Rattle.search.specs.SearchLaws.{and_left, and_law, all_law, all_cong}
use Rattle.ternary.specs.Word.{agree, inside, both}
use Rattle.ternary.proofs.WordLaws.{stray, agree_law, inside_set, both_law, stray_agrees, stray_covered, stray_fits}
use Rattle.ternary.specs.Pattern.{Words, Matches, Overlap, overlaps, common_key}
use Rattle.ternary.proofs.PatternLaws.{overlap_turned, overlaps_law, matches_law, common_matches, common_key_fits, matched_overlap}
use Rattle.ternary.specs.Comparison.{Covers, ComparedCase, ComparedBits, WordsFit, SharedKey, CoversKeys, ComparedKeys, masks_within, masks_compared, covers, comparison, not_apart, first_covers}
use Rattle.ternary.specs.declared.Comparison.{Comparison}
use Rattle.ternary.specs.declared.Comparison.TheVariants.{Apart, Overlapping, FirstCovers, SecondCovers}

-- The four cases that three tests tell, whatever the sentences are that they decide, where what covers overlaps.
module _ {overlap first second : Type 0} {o f s : Bool} (overlaps? : (o ≡ true) ↔ overlap) (first? : (f ≡ true) ↔ first) (second? : (s ≡ true) ↔ second)
    (first-overlaps : first → overlap) (second-overlaps : second → overlap) where
  abbrev told : Comparison
  told = cond o (masks_compared f s) Apart

  refuted : {b : Bool} {P : Type 0} → ((b ≡ true) ↔ P) → (P → ⊥) → b ≡ false
  refuted {b = true} law h = absurd (h (law.0 refl))
  refuted {b = false} law h = refl

  denied : {b : Bool} {P : Type 0} → ((b ≡ true) ↔ P) → b ≡ false → P → ⊥
  denied law e p = true≢false (sym (law.1 p) ∙ e)

  from : (c : Comparison) → ComparedCase overlap first second c → told ≡ c
  from Apart h = rw (refuted overlaps? h)
  from FirstCovers h = rw (overlaps?.1 (first-overlaps h), first?.1 h)
  from SecondCovers h = rw (overlaps?.1 (second-overlaps h.0), refuted first? h.1, second?.1 h.0)
  from Overlapping h = rw (some, none, refuted second? (λ q. h.2 (q, h.1)))
    where
      none : f ≡ false
      none = refuted first? h.1

      some : o ≡ true
      some = pick o refl
        where
          pick : (b : Bool) → b ≡ o → o ≡ true
          pick true e = sym e
          pick false e = absurd (h.0 (denied overlaps? (sym e)))

  to : (b g h : Bool) → b ≡ o → g ≡ f → h ≡ s → ComparedCase overlap first second told
  to false g h e k l = rw (sym e) (denied overlaps? (sym e))
  to true true h e k l = rw (sym e, sym k) (first?.0 (sym k))
  to true false true e k l = rw (sym e, sym k, sym l) (second?.0 (sym l), denied first? (sym k))
  to true false false e k l =
      rw (sym e, sym k, sym l) ((λ q. q (overlaps?.0 (sym e))), denied first? (sym k), λ q. denied second? (sym l) q.0)

  cases_law : (c : Comparison) → (told ≡ c) ↔ ComparedCase overlap first second c
  cases_law c = (λ e. subst (ComparedCase overlap first second) e (to o f s refl refl refl), from c)

-- the test of covering, bit by bit
pub covers_law : (w : ℕ) (value mask value' mask' : Words) → (covers w value mask value' mask' ≡ true) ↔ Covers w value mask value' mask'
unfolding covers
covers_law w value mask value' mask' =
    let each = all_law (λ (j : ℕ). inside (mask j) (mask' j) && agree (value j) (value' j) (mask j)) w in (
      λ e j h i cared. let p = (word j).0 (each.0 e j h) in
          ((inside_set (mask j) (mask' j)).0 p.0 i cared, (agree_law (value j) (value' j) (mask j)).0 p.1 i cared),
      λ c. each.1 (λ j h. (word j).1 (
        (inside_set (mask j) (mask' j)).1 (λ i cared. (c j h i cared).0),
        (agree_law (value j) (value' j) (mask j)).1 (λ i cared. (c j h i cared).1),
      )),
    )
  where
    word : (j : ℕ) → (inside (mask j) (mask' j) && agree (value j) (value' j) (mask j) ≡ true)
        ↔ ((inside (mask j) (mask' j) ≡ true) × (agree (value j) (value' j) (mask j) ≡ true))
    word j = and_law (inside (mask j) (mask' j)) (agree (value j) (value' j) (mask j))

-- a pattern whose mask does not lie within the other's does not cover it
pub covers_outside : (w : ℕ) (value mask value' mask' : Words) → masks_within w mask mask' ≡ false → covers w value mask value' mask' ≡ false
unfolding covers masks_within
covers_outside w value mask value' mask' e = pick (covers w value mask value' mask') refl
  where
    pick : (b : Bool) → covers w value mask value' mask' ≡ b → b ≡ false
    pick false f = refl
    pick true f =
        let each = (all_law (λ (j : ℕ). inside (mask j) (mask' j) && agree (value j) (value' j) (mask j)) w).0 f in
        sym ((all_law (λ (j : ℕ). inside (mask j) (mask' j)) w).1 (λ j h. and_left _ _ (each j h))) ∙ e

-- patterns of which the one covers the other overlap
pub covers_overlap : (w : ℕ) (value mask value' mask' : Words) → Covers w value mask value' mask' → Overlap w value mask value' mask'
covers_overlap w value mask value' mask' c j h i clash = clash.2 (c j h i clash.0).1

-- the comparison tells the four cases, bit by bit
pub comparison_law : (w : ℕ) (value mask value' mask' : Words) (c : Comparison)
    → (comparison w value mask value' mask' ≡ c) ↔ ComparedBits w value mask value' mask' c
unfolding comparison
comparison_law w value mask value' mask' =
    cases_law (overlaps_law w value mask value' mask') (covers_law w value mask value' mask') (covers_law w value' mask' value mask)
    (covers_overlap w value mask value' mask') (λ c. overlap_turned w value' mask' value mask (covers_overlap w value' mask' value mask c))

-- of two patterns that overlap the one covers the other exactly when its mask lies within the other's: the code tests no more
pub overlapping_covers : (w : ℕ) (value mask value' mask' : Words) → overlaps w value mask value' mask' ≡ true
    → covers w value mask value' mask' ≡ masks_within w mask mask'
unfolding overlaps covers masks_within
overlapping_covers w value mask value' mask' e = all_cong w (λ j h. word j ((all_law (λ (j : ℕ). agree (value j) (value' j) (both (mask j) (mask' j))) w).0 e j h))
  where
    word : (j : ℕ) → agree (value j) (value' j) (both (mask j) (mask' j)) ≡ true
        → inside (mask j) (mask' j) && agree (value j) (value' j) (mask j) ≡ inside (mask j) (mask' j)
    word j common = pick (inside (mask j) (mask' j)) refl
      where
        pick : (b : Bool) → b ≡ inside (mask j) (mask' j) → b && agree (value j) (value' j) (mask j) ≡ b
        pick false f = refl
        pick true f =
            (agree_law (value j) (value' j) (mask j)).1
            (λ i cared. (agree_law (value j) (value' j) (both (mask j) (mask' j))).0 common i
            ((both_law (mask j) (mask' j) i).1 (cared, (inside_set (mask j) (mask' j)).0 (sym f) i cared)))

-- so the comparison, as the code makes it
pub comparison_apart : (w : ℕ) (value mask value' mask' : Words) → overlaps w value mask value' mask' ≡ false → Apart ≡ comparison w value mask value' mask'
unfolding comparison
comparison_apart w value mask value' mask' e = rw e

pub comparison_masks : (w : ℕ) (value mask value' mask' : Words) → overlaps w value mask value' mask' ≡ true
    → masks_compared (masks_within w mask mask') (masks_within w mask' mask) ≡ comparison w value mask value' mask'
unfolding comparison
comparison_masks w value mask value' mask' e =
    let turned = (overlaps_law w value' mask' value mask).1 (overlap_turned w value mask value' mask' ((overlaps_law w value mask value' mask').0 e)) in
    rw (e, overlapping_covers w value mask value' mask' e, overlapping_covers w value' mask' value mask turned)

-- the overlap test is what the comparison tells but for apart
pub overlaps_compared : (w : ℕ) (value mask value' mask' : Words)
    → overlaps w value mask value' mask' ≡ not_apart (comparison w value mask value' mask')
unfolding comparison
overlaps_compared w value mask value' mask' = pick (overlaps w value mask value' mask') (covers w value mask value' mask') (covers w value' mask' value mask)
  where
    pick : (o f s : Bool) → o ≡ not_apart (cond o (masks_compared f s) Apart)
    pick false f s = refl
    pick true true s = refl
    pick true false true = refl
    pick true false false = refl

-- a key that matches a pattern matches each that covers it
pub covers_matches : (w : ℕ) (key value mask value' mask' : Words) → Covers w value mask value' mask' → Matches w key value' mask' → Matches w key value mask
covers_matches w key value mask value' mask' c m j h i cared = m j h i (c j h i cared).0 ∙ sym (c j h i cared).1

-- the comparison tells that the first covers exactly where that test holds
pub covers_compared : (w : ℕ) (value mask value' mask' : Words) → covers w value mask value' mask' ≡ first_covers (comparison w value mask value' mask')
covers_compared w value mask value' mask' = pick (covers w value mask value' mask') refl (comparison w value mask value' mask') refl
  where
    pick : (b : Bool) → b ≡ covers w value mask value' mask' → (c : Comparison) → comparison w value mask value' mask' ≡ c → b ≡ first_covers c
    pick true e c f = ap first_covers (sym ((comparison_law w value mask value' mask' FirstCovers).1 ((covers_law w value mask value' mask').0 (sym e))) ∙ f)
    pick false e FirstCovers f = e ∙ (covers_law w value mask value' mask').1 ((comparison_law w value mask value' mask' FirstCovers).0 f)
    pick false e Apart f = refl
    pick false e Overlapping f = refl
    pick false e SecondCovers f = refl

-- a key of the second pattern, which matches the first only if that covers the second
unfoldable pub stray_key : Words → Words → Words → Words
stray_key value value' mask' j = stray (value j) (value' j) (mask' j)

-- By keys: of patterns whose words have 64 bits.
module _ (w : ℕ) (value mask value' mask' : Words) (value-fits : WordsFit w value) (mask_Fits : WordsFit w mask) (value'-fits : WordsFit w value') (mask'-fits : WordsFit w mask') where
  stray_key_fits : WordsFit w (stray_key value value' mask')
  unfolding stray_key
  stray_key_fits j h = stray_fits (value j) (value' j) (mask' j) (value-fits j h) (value'-fits j h) (mask'-fits j h)

  stray_matches : Matches w (stray_key value value' mask') value' mask'
  unfolding stray_key
  stray_matches j h = (agree_law (stray (value j) (value' j) (mask' j)) (value' j) (mask' j)).0 (stray_agrees (value j) (value' j) (mask' j) (mask'-fits j h))

  -- each key of the second matches the first exactly when the first covers the second
  pub covers_keys : Covers w value mask value' mask' ↔ CoversKeys w value mask value' mask'
  unfolding stray_key
  covers_keys = (
    λ c key fits m. covers_matches w key value mask value' mask' c m,
    λ k j h. stray_covered (value j) (value' j) (mask j) (mask' j) (mask_Fits j h)
        ((agree_law (stray (value j) (value' j) (mask' j)) (value j) (mask j)).1 (k (stray_key value value' mask') stray_key_fits stray_matches j h)),
  )

  -- some key matches both exactly when they overlap
  pub overlap_keys : Overlap w value mask value' mask' ↔ SharedKey w value mask value' mask'
  overlap_keys = (
    λ o. let both = common_matches w value mask value' mask' ((overlaps_law w value mask value' mask').1 o) in
        let key = common_key value mask value' mask' in (
          key,
          common_key_fits 64 w value mask value' mask' (λ j h. (value-fits j h, mask_Fits j h, value'-fits j h, mask'-fits j h)),
          (matches_law w key value mask).0 both.0,
          (matches_law w key value' mask').0 both.1,
        ),
    λ k. (overlaps_law w value mask value' mask').0
        (matched_overlap w k.0 value mask value' mask' ((matches_law w k.0 value mask).1 k.2) ((matches_law w k.0 value' mask').1 k.3)),
  )

-- the comparison tells the four cases by keys: apart exactly when no key matches both; the first covers exactly when each key of the second matches it; the
-- second exactly when each key of the first matches it and not conversely; overlapping exactly when none of these
pub comparison_keys : (w : ℕ) (value mask value' mask' : Words) → WordsFit w value → WordsFit w mask → WordsFit w value' → WordsFit w mask' → (c : Comparison)
    → (comparison w value mask value' mask' ≡ c) ↔ ComparedKeys w value mask value' mask' c
unfolding comparison
comparison_keys w value mask value' mask' a b a' b' =
    cases_law (joined (overlaps_law w value mask value' mask') overlap) (joined (covers_law w value mask value' mask') first)
    (joined (covers_law w value' mask' value mask) second) (λ k. overlap.0 (covers_overlap w value mask value' mask' (first.1 k)))
    (λ k. overlap.0 (overlap_turned w value' mask' value mask (covers_overlap w value' mask' value mask (second.1 k))))
  where
    overlap : Overlap w value mask value' mask' ↔ SharedKey w value mask value' mask'
    overlap = overlap_keys w value mask value' mask' a b a' b'

    first : Covers w value mask value' mask' ↔ CoversKeys w value mask value' mask'
    first = covers_keys w value mask value' mask' a b a' b'

    second : Covers w value' mask' value mask ↔ CoversKeys w value' mask' value mask
    second = covers_keys w value' mask' value mask a' b' a b

    joined : {P Q R : Type 0} → (P ↔ Q) → (Q ↔ R) → P ↔ R
    joined p q = (λ x. q.0 (p.0 x), λ x. p.1 (q.1 x))
