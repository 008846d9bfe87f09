-- Worked examples for document 02's 2026-02, by computation at two words and at five: of an empty slot and, after it, a rule that matches every key,
-- the rule answers key 0.
use Rattle.std.specs.Prelude.{◌≡◌, refl, true, List, [], ◌∷◌, ◌++◌, ℕ, ◌*◌, replicate}
use Rattle.search.specs.Search.{all, least}
use Rattle.ternary.specs.Word.{agree, inside}
use Rattle.ternary.specs.Pattern.{Words, matches, within}
use Rattle.records.specs.Record.{slot_words, word, empty, rank_fits, sound_parts, pattern_matches, slot_matches}
use Rattle.records.specs.Checks.{success, lowest, shaped, check_shape, unsound_at, check_records, slot_checks, first_match}
use Rattle.records.specs.Entries.{vacant}
use Rattle.lookups.specs.Lookup.{lookup_answer, match_told, hit_at}

-- slot 0 empty; slot 1: id 1, priority 5, mask 0, action 7
abbrev table : ℕ → List ℕ
table w = vacant w ++ replicate (2 * w) 0 ++ 4294967303 ∷ 5 ∷ []

-- key 0
abbrev key : ℕ → Words
key w = word (replicate w 0)

-- the empty slot's pattern, read as a rule's, would match
abbrev PatternOfEmpty : ℕ → Type 0
PatternOfEmpty w = pattern_matches w (key w) (slot_words w (table w) 0) ≡ true

pattern_of_empty : PatternOfEmpty 2 × PatternOfEmpty 5
unfolding matches all agree
pattern_of_empty = (refl, refl)

abbrev PastEmpty : ℕ → Type 0
PastEmpty w = lookup_answer w (table w) (key w) ≡ success (1 ∷ 1 ∷ 7 ∷ [])

past_empty : PastEmpty 2 × PastEmpty 5
unfolding lookup_answer slot_checks check_shape shaped check_records lowest unsound_at rank_fits sound_parts within inside empty matches all agree least first_match slot_matches match_told hit_at
past_empty = (refl, refl)
