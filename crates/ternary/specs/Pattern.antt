-- Patterns of any number of words: match, overlap, value within mask, full mask. Sentences of documents 01 and 02, and the tests that decide them.
-- A value, a mask and a key are read word by word, word 0 the highest; w is the number of words.
use Rattle.std.specs.Prelude.{◌≡◌, Bool, ℕ, ◌<◌}
use Rattle.search.specs.Search.{all}
use Rattle.ternary.specs.Bit.{bit}
use Rattle.ternary.specs.Word.{agree, inside, both, common, ones}

-- the words of a value, of a mask or of a key
abbrev pub Words : Type 0
Words = ℕ → ℕ

-- document 01: a key matches when it equals the value at all bits cared for
abbrev pub Matches : ℕ → Words → Words → Words → Type 0
Matches w key value mask = (j : ℕ) → j < w → (i : ℕ) → bit (mask j) i ≡ 1 → bit (key j) i ≡ bit (value j) i

-- bit i of word j is cared for by both with different values
abbrev pub Clash : Words → Words → Words → Words → ℕ → ℕ → Type 0
Clash value mask value' mask' j i = (bit (mask j) i ≡ 1) × (bit (mask' j) i ≡ 1) × (bit (value j) i ≡ bit (value' j) i → ⊥)

-- document 01: two rules overlap when no bit position is cared for by both with different values
abbrev pub Overlap : ℕ → Words → Words → Words → Words → Type 0
Overlap w value mask value' mask' = (j : ℕ) → j < w → (i : ℕ) → Clash value mask value' mask' j i → ⊥

-- document 01: a value bit outside the mask must be 0
abbrev pub Within : ℕ → Words → Words → Type 0
Within w value mask = (j : ℕ) → j < w → (i : ℕ) → bit (mask j) i ≡ 0 → bit (value j) i ≡ 0

-- document 02: every mask bit is set, 64 of each word
abbrev pub FullMask : ℕ → Words → Type 0
FullMask w mask = (j : ℕ) → j < w → (i : ℕ) → i < 64 → bit (mask j) i ≡ 1

-- the tests, a word at a time
unfoldable pub matches : ℕ → Words → Words → Words → Bool
matches w key value mask = all (λ (j : ℕ). agree (key j) (value j) (mask j)) w

unfoldable pub overlaps : ℕ → Words → Words → Words → Words → Bool
overlaps w value mask value' mask' = all (λ (j : ℕ). agree (value j) (value' j) (both (mask j) (mask' j))) w

unfoldable pub within : ℕ → Words → Words → Bool
within w value mask = all (λ (j : ℕ). inside (value j) (mask j)) w

unfoldable pub full_mask : ℕ → Words → Bool
full_mask w mask = all (λ (j : ℕ). inside ones (mask j)) w

-- a key that two overlapping patterns both match
unfoldable pub common_key : Words → Words → Words → Words → Words
common_key value mask value' mask' j = common (value j) (mask j) (value' j) (mask' j)
