-- Two records side by side: overlap, precedence, cover, one id in two slots, equal rules, and which pair is out of order. A table's order.
-- Copies of one id are not compared with each other, so that these definitions hold in the middle of a plan too.
-- u: the table is named as uncounted (document 02, 2026-11). `compared` and `replaceable` alone ask it.
use Rattle.std.specs.Prelude.{◌≡◌, Bool, true, not, ◌&&◌, List, ℕ, ◌*◌, ◌/◌, ◌<◌, eqb, ltb, leb, length}
use Rattle.search.specs.Search.{all}
use Rattle.ternary.specs.Word.{agree, inside, both}
use Rattle.ternary.specs.Pattern.{Words, Overlap, overlaps}
use Rattle.ternary.specs.Comparison.{Covers, covers, comparison}
use Rattle.ternary.specs.declared.Comparison.{Comparison}
use Rattle.records.specs.Record.{record_words, slot_words, value, mask, ident, action, rank, occupied}

-- how many slots a table has
abbrev pub slots : ℕ → List ℕ → ℕ
slots w t = length t / record_words w

-- two patterns do not differ in word j at bits that both care for
abbrev pub overlap_at : ℕ → Words → Words → ℕ → Bool
overlap_at w a b j = agree (value a j) (value b j) (both (mask w a j) (mask w b j))

abbrev pub overlapping : ℕ → Words → Words → Bool
overlapping w a b = overlaps w (value a) (mask w a) (value b) (mask w b)

-- the first mask has no bit in word j that the second has not
abbrev pub mask_within_at : ℕ → Words → Words → ℕ → Bool
mask_within_at w a b j = inside (mask w a j) (mask w b j)

-- document 02, 2026-05: what two records' patterns are to each other
abbrev pub slot_comparison : ℕ → Words → Words → Comparison
slot_comparison w a b = comparison w (value a) (mask w a) (value b) (mask w b)

-- two rules of different ids: copies of one id are not compared with each other
unfoldable pub distinct : ℕ → Words → Words → Bool
distinct w a b = not (eqb (ident w a) (ident w b)) && (occupied w a && occupied w b)

-- document 02, 2026-11: an uncounted table orders only pairs whose actions differ
abbrev pub actions_compared : ℕ → Bool → Words → Words → Bool
actions_compared w u a b = not (u && eqb (action w a) (action w b))

-- two rules that are compared with each other: the one relation that order, ties, neighbours, windows, crossing and the class ask
abbrev pub compared : ℕ → Bool → Words → Words → Bool
compared w u a b = actions_compared w u a b && distinct w a b

-- document 01: the higher of an overlapping pair precedes the other, which depends on it
unfoldable pub precedes : ℕ → Bool → Words → Words → Bool
precedes w u a b = (overlapping w a b && ltb (rank w b) (rank w a)) && compared w u a b

-- document 01: an overlap at equal priority, by document 02 at equal rank
unfoldable pub tied : ℕ → Bool → Words → Words → Bool
tied w u a b = (overlapping w a b && eqb (rank w a) (rank w b)) && compared w u a b

-- document 02, 2026-05: a rule is obscured when a higher one covers it; ids and actions are not looked at. The rank of an empty slot is 0, so that it
-- obscures none
unfoldable pub obscures : ℕ → Words → Words → Bool
obscures w a b = ltb (rank w b) (rank w a) && covers w (value a) (mask w a) (value b) (mask w b)

-- one id stands in both slots
unfoldable pub same_id : ℕ → Words → Words → Bool
same_id w a b = eqb (ident w a) (ident w b) && (occupied w a && occupied w b)

-- value and mask, the first words of a record, are the same
unfoldable pub same_pattern : ℕ → Words → Words → Bool
same_pattern w a b = all (λ (j : ℕ). eqb (a j) (b j)) (2 * w)

-- document 02, 2026-03: two rules of the same value, mask and rank; ids and actions are not looked at
unfoldable pub equal_rule : ℕ → Words → Words → Bool
equal_rule w a b = (same_pattern w a b && eqb (rank w a) (rank w b)) && (occupied w a && occupied w b)

-- the one replaces the other; by 2026-11, in an uncounted table, only if its action is the same
unfoldable pub replaceable : ℕ → Bool → Words → Words → Bool
replaceable w u a b = not (u && not (eqb (action w a) (action w b))) && equal_rule w a b

-- a standing before b is out of order: two rules that overlap, and a's rank is not higher
unfoldable pub misordered : ℕ → Bool → Words → Words → Bool
misordered w u a b = (overlapping w a b && leb (rank w a) (rank w b)) && compared w u a b

-- two actions differ where that is asked: in an uncounted table
abbrev pub ActionsDiffer : ℕ → Bool → Words → Words → Type 0
ActionsDiffer w u a b = u ≡ true → action w a ≡ action w b → ⊥

-- a may stand before b
abbrev pub Ordered : ℕ → Bool → Words → Words → Type 0
Ordered w u a b =
    occupied w a ≡ true → occupied w b ≡ true → (ident w a ≡ ident w b → ⊥)
    → Overlap w (value a) (mask w a) (value b) (mask w b) → ActionsDiffer w u a b → rank w b < rank w a

-- document 01: of two overlapping rules in the table the one in the lower-numbered slot must have the strictly higher priority, by document 02 rank;
-- copies of one id are not compared with each other; in an uncounted table only rules of different actions are
abbrev pub InOrder : ℕ → Bool → List ℕ → Type 0
InOrder w u t = (x y : ℕ) → x < y → y < slots w t → Ordered w u (slot_words w t x) (slot_words w t y)

-- Two rules of different ids that overlap, in an uncounted table of different actions: what every comparison of two slots asks besides their ranks.
abbrev pub Overlapping : ℕ → Bool → Words → Words → Type 0
Overlapping w u a b =
    (occupied w a ≡ true) × (occupied w b ≡ true) × (ident w a ≡ ident w b → ⊥) × Overlap w (value a) (mask w a) (value b) (mask w b)
    × ActionsDiffer w u a b

-- Two rules of the same value, mask and rank, in words.
pub record EqualRules (w : ℕ) (a b : Words) : Type 0 where
  pub first : occupied w a ≡ true
  pub second : occupied w b ≡ true
  pub values : (j : ℕ) → j < w → value a j ≡ value b j
  pub masks : (j : ℕ) → j < w → mask w a j ≡ mask w b j
  pub ranks : rank w a ≡ rank w b

-- of such a pair the one replaces the other; in an uncounted table their actions are the same
pub record Replaceable (w : ℕ) (u : Bool) (a b : Words) : Type 0 where
  pub equal : EqualRules w a b
  pub actions : u ≡ true → action w a ≡ action w b

-- In words: a rule is obscured by one of higher rank that alone covers it.
pub record Obscures (w : ℕ) (a b : Words) : Type 0 where
  pub holds : occupied w a ≡ true
  pub higher : rank w b < rank w a
  pub covering : Covers w (value a) (mask w a) (value b) (mask w b)
