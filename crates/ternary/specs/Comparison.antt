-- Two patterns side by side, the four things that document 02, 2026-05, tells of them: apart, overlapping, the first covers the second, the second covers the
-- first; equal ones count as the first covering. Bit by bit, by keys, and the test that decides it.
use Rattle.std.specs.Prelude.{◌≡◌, Bool, true, false, ◌&&◌, cond, ℕ, ◌^◌, ◌<◌}
use Rattle.search.specs.Search.{all}
use Rattle.ternary.specs.Bit.{bit}
use Rattle.ternary.specs.Word.{agree, inside}
use Rattle.ternary.specs.Pattern.{Words, Matches, Overlap, overlaps}
use Rattle.ternary.specs.declared.Comparison.{Comparison}
use Rattle.ternary.specs.declared.Comparison.TheVariants.{Apart, Overlapping, FirstCovers, SecondCovers}

-- one pattern covers another: each bit that the one cares for the other cares for too, with the same value
abbrev pub Covers : ℕ → Words → Words → Words → Words → Type 0
Covers w value mask value' mask' =
    (j : ℕ) → j < w → (i : ℕ) → bit (mask j) i ≡ 1 → (bit (mask' j) i ≡ 1) × (bit (value j) i ≡ bit (value' j) i)

-- the four cases of two patterns of which it is said when they overlap, when the first covers the second, and when the second covers the first
abbrev pub ComparedCase : Type 0 → Type 0 → Type 0 → Comparison → Type 0
ComparedCase overlap first second Apart = overlap → ⊥
ComparedCase overlap first second FirstCovers = first
ComparedCase overlap first second SecondCovers = second × (first → ⊥)
ComparedCase overlap first second Overlapping = ((overlap → ⊥) → ⊥) × (first → ⊥) × (second × (first → ⊥) → ⊥)

-- bit by bit
abbrev pub ComparedBits : ℕ → Words → Words → Words → Words → Comparison → Type 0
ComparedBits w value mask value' mask' =
    ComparedCase (Overlap w value mask value' mask') (Covers w value mask value' mask') (Covers w value' mask' value mask)

-- words of 64 bits, as a table's are and a key's
abbrev pub WordsFit : ℕ → Words → Type 0
WordsFit w words = (j : ℕ) → j < w → words j < 2 ^ 64

-- by keys: some key matches both, and each key of the other pattern matches the one
abbrev pub SharedKey : ℕ → Words → Words → Words → Words → Type 0
SharedKey w value mask value' mask' = (key : Words) × WordsFit w key × Matches w key value mask × Matches w key value' mask'

abbrev pub CoversKeys : ℕ → Words → Words → Words → Words → Type 0
CoversKeys w value mask value' mask' = (key : Words) → WordsFit w key → Matches w key value' mask' → Matches w key value mask

abbrev pub ComparedKeys : ℕ → Words → Words → Words → Words → Comparison → Type 0
ComparedKeys w value mask value' mask' =
    ComparedCase (SharedKey w value mask value' mask') (CoversKeys w value mask value' mask') (CoversKeys w value' mask' value mask)

-- the tests, a word at a time
unfoldable pub masks_within : ℕ → Words → Words → Bool
masks_within w mask mask' = all (λ (j : ℕ). inside (mask j) (mask' j)) w

unfoldable pub covers : ℕ → Words → Words → Words → Words → Bool
covers w value mask value' mask' = all (λ (j : ℕ). inside (mask j) (mask' j) && agree (value j) (value' j) (mask j)) w

-- two patterns that overlap, by whether the first covers, and the second
abbrev pub masks_compared : Bool → Bool → Comparison
masks_compared first second = cond first FirstCovers (cond second SecondCovers Overlapping)

unfoldable pub comparison : ℕ → Words → Words → Words → Words → Comparison
comparison w value mask value' mask' =
    cond (overlaps w value mask value' mask') (masks_compared (covers w value mask value' mask') (covers w value' mask' value mask)) Apart

-- two patterns that are not apart overlap: the two things that were told before
abbrev pub not_apart : Comparison → Bool
not_apart Apart = false
not_apart Overlapping = true
not_apart FirstCovers = true
not_apart SecondCovers = true

-- the first covers
abbrev pub first_covers : Comparison → Bool
first_covers Apart = false
first_covers Overlapping = false
first_covers FirstCovers = true
first_covers SecondCovers = false
