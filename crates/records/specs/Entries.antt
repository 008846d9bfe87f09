-- A table of words as a layout: the list of its slots' records, each a list of words, and the tests of such entries.
use Rattle.std.specs.Prelude.{◌≡◌, Bool, List, map, ℕ, ◌<◌, replicate}
use Rattle.ternary.specs.Pattern.{Words}
use Rattle.records.specs.Record.{word, listed, record_words, slot_words, occupied}
use Rattle.records.specs.Order.{slots, same_id, misordered}

-- the empty entry: a record's words, all zero
abbrev pub vacant : ℕ → List ℕ
vacant w = replicate (record_words w) 0

-- the record in slot i, as a list
abbrev pub entry_at : ℕ → List ℕ → ℕ → List ℕ
entry_at w t i = listed (record_words w) (slot_words w t i)

-- the table as a layout: the entries of its slots, slot 0 first
unfoldable pub entries : ℕ → List ℕ → List (List ℕ)
entries w t = map (entry_at w t) (listed (slots w t) (λ i. i))

-- the tests of entries
abbrev pub entry_occupied : ℕ → List ℕ → Bool
entry_occupied w a = occupied w (word a)

abbrev pub entry_same : ℕ → List ℕ → List ℕ → Bool
entry_same w a b = same_id w (word a) (word b)

abbrev pub entry_misordered : ℕ → Bool → List ℕ → List ℕ → Bool
entry_misordered w u a b = misordered w u (word a) (word b)

-- the words of two records are the same; past a record's words nothing is said
abbrev pub SameRecord : ℕ → Words → Words → Type 0
SameRecord w x y = (j : ℕ) → j < record_words w → x j ≡ y j
