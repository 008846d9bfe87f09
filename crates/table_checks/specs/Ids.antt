-- A column of a table's ids, side by side, and a map of those seen.
-- The column does not tell which slots are occupied: what it has twice may be no rule's id, but what it has once is no rule's twice.
use Rattle.std.specs.Prelude.{◌≡◌, Bool, true, List, ℕ, ◌<◌, ◌/◌, ◌%◌, get_or, eqb}
use Rattle.search.specs.Search.{any}
use Rattle.records.specs.Record.{slot_words, ident}
use Rattle.bitmaps.specs.Flags.{on, marked}

-- the column's first n entries are the ids of the first n slots
abbrev pub IdColumn : ℕ → List ℕ → List ℕ → ℕ → Type 0
IdColumn w t ids n = (k : ℕ) → k < n → get_or ids k 0 ≡ ident w (slot_words w t k)

-- entry j of the column stands in it earlier too
unfoldable pub listed_twice : List ℕ → ℕ → Bool
listed_twice ids j = any (λ (i : ℕ). eqb (get_or ids i 0) (get_or ids j 0)) j

-- a map of 8,192 bits, in words of 64: whether it has an id's bit, the one at the id's last 13 bits; the map with that bit set
unfoldable pub seen_at : List ℕ → ℕ → Bool
seen_at seen id = on (get_or seen (id % 8192 / 64) 0) (id % 8192 % 64)

abbrev pub with_seen : List ℕ → ℕ → List ℕ
with_seen seen id = marked seen (id % 8192)

-- the map has the bits of the column's first n entries
abbrev pub SeenTo : List ℕ → List ℕ → ℕ → Type 0
SeenTo ids seen n = (k : ℕ) → k < n → seen_at seen (get_or ids k 0) ≡ true
