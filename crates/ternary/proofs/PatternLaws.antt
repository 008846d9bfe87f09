-- End theorems on patterns of any number of words: the tests of match, overlap, value within mask and full mask decide the sentences of documents 01 and 02.
use Rattle.std.specs.Prelude.{◌≡◌, Bool, true, ◌↔◌, ℕ, ◌^◌, ◌<◌}
use Rattle.std.proofs.Common.{sym, ◌∙◌}
use Rattle.std.proofs.Math.Decide.{ℕ_discrete}
use Rattle.search.specs.Search.{all}
use Rattle.search.specs.SearchLaws.{all_law, all_cong}
use Rattle.ternary.specs.Bit.{bit}
use Rattle.ternary.specs.Word.{agree, inside, both, common, ones}
use Rattle.ternary.proofs.WordLaws.{agree_law, inside_law, full_word_law, both_law, common_left, common_right, common_fits}
use Rattle.ternary.specs.Pattern.{common_key, overlaps, within, Within, full_mask, FullMask, Matches, matches, Overlap, Clash, Words}

-- the tests read the words below w alone
pub matches_cong : (w : ℕ) {key key' value value' mask mask' : Words}
    → ((j : ℕ) → j < w → key j ≡ key' j) → ((j : ℕ) → j < w → value j ≡ value' j) → ((j : ℕ) → j < w → mask j ≡ mask' j)
    → matches w key value mask ≡ matches w key' value' mask'
unfolding matches
matches_cong w hk hv hm = all_cong w (λ j h. let k = hk j h in let v = hv j h in let m = hm j h in cc)

pub overlaps_cong : (w : ℕ) {v v' m m' x x' n n' : Words}
    → ((j : ℕ) → j < w → v j ≡ v' j) → ((j : ℕ) → j < w → m j ≡ m' j) → ((j : ℕ) → j < w → x j ≡ x' j) → ((j : ℕ) → j < w → n j ≡ n' j)
    → overlaps w v m x n ≡ overlaps w v' m' x' n'
unfolding overlaps
overlaps_cong w hv hm hx hn = all_cong w (λ j h. let a = hv j h in let b = hm j h in let c = hx j h in let d = hn j h in cc)

pub within_cong : (w : ℕ) {value value' mask mask' : Words}
    → ((j : ℕ) → j < w → value j ≡ value' j) → ((j : ℕ) → j < w → mask j ≡ mask' j) → within w value mask ≡ within w value' mask'
unfolding within
within_cong w hv hm = all_cong w (λ j h. let v = hv j h in let m = hm j h in cc)

pub full_cong : (w : ℕ) {mask mask' : Words} → ((j : ℕ) → j < w → mask j ≡ mask' j) → full_mask w mask ≡ full_mask w mask'
unfolding full_mask
full_cong w hm = all_cong w (λ j h. let m = hm j h in cc)

-- a test over all words says what each word's test says
each : (p : ℕ → Bool) (P : ℕ → Type 0) → ((j : ℕ) → (p j ≡ true) ↔ P j) → (w : ℕ) → (all p w ≡ true) ↔ ((j : ℕ) → j < w → P j)
each p P law w = (λ e j h. (law j).0 ((all_law p w).0 e j h), λ f. (all_law p w).1 (λ j h. (law j).1 (f j h)))

pub matches_law : (w : ℕ) (key value mask : Words) → (matches w key value mask ≡ true) ↔ Matches w key value mask
unfolding matches
matches_law w key value mask =
    each (λ (j : ℕ). agree (key j) (value j) (mask j)) (λ (j : ℕ). (i : ℕ) → bit (mask j) i ≡ 1 → bit (key j) i ≡ bit (value j) i)
    (λ j. agree_law (key j) (value j) (mask j)) w

pub within_law : (w : ℕ) (value mask : Words) → (within w value mask ≡ true) ↔ Within w value mask
unfolding within
within_law w value mask =
    each (λ (j : ℕ). inside (value j) (mask j)) (λ (j : ℕ). (i : ℕ) → bit (mask j) i ≡ 0 → bit (value j) i ≡ 0)
    (λ j. inside_law (value j) (mask j)) w

-- document 02: every mask bit is set
pub full_law : (w : ℕ) (mask : Words) → (full_mask w mask ≡ true) ↔ FullMask w mask
unfolding full_mask
full_law w mask = each (λ (j : ℕ). inside ones (mask j)) (λ (j : ℕ). (i : ℕ) → i < 64 → bit (mask j) i ≡ 1) (λ j. full_word_law (mask j)) w

-- values that agree at the bits of both masks are values that clash at no bit
no_clash : (value mask value' mask' : Words) (j : ℕ)
    → (agree (value j) (value' j) (both (mask j) (mask' j)) ≡ true) ↔ ((i : ℕ) → Clash value mask value' mask' j i → ⊥)
no_clash value mask value' mask' j =
    let l = agree_law (value j) (value' j) (both (mask j) (mask' j)) in (
      λ e i c. c.2 (l.0 e i ((both_law (mask j) (mask' j) i).1 (c.0, c.1))),
      λ h. l.1 (λ i m. let p = (both_law (mask j) (mask' j) i).0 m in pick i p (h i) (ℕ_discrete (bit (value j) i) (bit (value' j) i))),
    )
  where
    pick : (i : ℕ) → (bit (mask j) i ≡ 1) × (bit (mask' j) i ≡ 1) → (Clash value mask value' mask' j i → ⊥)
        → Dec (bit (value j) i ≡ bit (value' j) i) → bit (value j) i ≡ bit (value' j) i
    pick i p h (yes e) = e
    pick i p h (no e) = absurd (h (p.0, p.1, e))

pub overlaps_law : (w : ℕ) (value mask value' mask' : Words)
    → (overlaps w value mask value' mask' ≡ true) ↔ Overlap w value mask value' mask'
unfolding overlaps
overlaps_law w value mask value' mask' =
    each (λ (j : ℕ). agree (value j) (value' j) (both (mask j) (mask' j))) (λ (j : ℕ). (i : ℕ) → Clash value mask value' mask' j i → ⊥)
    (no_clash value mask value' mask') w

pub overlap_turned : (w : ℕ) (value mask value' mask' : Words) → Overlap w value mask value' mask' → Overlap w value' mask' value mask
overlap_turned w value mask value' mask' o j h i clash = o j h i (clash.1, clash.0, λ e. clash.2 (sym e))

pub common_matches : (w : ℕ) (value mask value' mask' : Words) → overlaps w value mask value' mask' ≡ true
    → (matches w (common_key value mask value' mask') value mask ≡ true) × (matches w (common_key value mask value' mask') value' mask' ≡ true)
unfolding matches overlaps common_key
common_matches w value mask value' mask' e =
    let at = (all_law (λ (j : ℕ). agree (value j) (value' j) (both (mask j) (mask' j))) w).0 e in (
      (all_law (λ (j : ℕ). agree (common (value j) (mask j) (value' j) (mask' j)) (value j) (mask j)) w).1
          (λ j h. common_left (value j) (mask j) (value' j) (mask' j) (at j h)),
      (all_law (λ (j : ℕ). agree (common (value j) (mask j) (value' j) (mask' j)) (value' j) (mask' j)) w).1
          (λ j h. common_right (value j) (mask j) (value' j) (mask' j) (at j h)),
    )

-- two patterns that one key matches overlap
pub matched_overlap : (w : ℕ) (key value mask value' mask' : Words) → matches w key value mask ≡ true → matches w key value' mask' ≡ true
    → overlaps w value mask value' mask' ≡ true
matched_overlap w key value mask value' mask' e f =
    let a = (matches_law w key value mask).0 e in
    let b = (matches_law w key value' mask').0 f in
    (overlaps_law w value mask value' mask').1 (λ j h i c. c.2 (sym (a j h i c.0) ∙ b j h i c.1))

-- two patterns overlap exactly when some key matches both
pub overlap_key : (w : ℕ) (value mask value' mask' : Words)
    → (overlaps w value mask value' mask' ≡ true)
    ↔ ((key : Words) × (matches w key value mask ≡ true) × (matches w key value' mask' ≡ true))
overlap_key w value mask value' mask' = (
  λ e. let m = common_matches w value mask value' mask' e in (common_key value mask value' mask', m.0, m.1),
  λ k. matched_overlap w k.0 value mask value' mask' k.1 k.2,
)

-- that key's words have as many bits as the patterns' words
pub common_key_fits : (k w : ℕ) (value mask value' mask' : Words)
    → ((j : ℕ) → j < w → (value j < 2 ^ k) × (mask j < 2 ^ k) × (value' j < 2 ^ k) × (mask' j < 2 ^ k))
    → (j : ℕ) → j < w → common_key value mask value' mask' j < 2 ^ k
unfolding common_key
common_key_fits k w value mask value' mask' f j h =
    let r = f j h in common_fits k (value j) (mask j) (value' j) (mask' j) r.0 r.2 r.1 r.3
