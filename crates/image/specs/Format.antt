-- Document 01's saved image: where each field of an image stands, and the image of a table.
-- w is the number of words of a value; document 01 has two, so that a body has 40 bytes and an image 4 + 50 × e.
use Rattle.std.specs.Prelude.{Bool, List, [], ◌∷◌, ◌++◌, ℕ, ◌+◌, ◌*◌, length}
use Rattle.ternary.specs.Pattern.{Words}
use Rattle.records.specs.Record.{listed, slot_words, ident, action, rank, occupied}
use Rattle.records.specs.Order.{slots}
use Rattle.image.specs.Bytes.{bytes_of, number_at, pieces, store}
use Rattle.image.specs.Indices.{indices, index}

-- sizes: a body has 16 bytes for each word of a value, and 8 more
abbrev pub body_bytes : ℕ → ℕ
body_bytes w = 16 * w + 8

abbrev pub image_bytes : ℕ → ℕ → ℕ
image_bytes w e = 4 + e * (10 + body_bytes w)

-- offsets: entry k of the contents, and body k of an image of e rules
abbrev pub entry_place : ℕ → ℕ
entry_place k = 4 + k * 10

abbrev pub body_place : ℕ → ℕ → ℕ → ℕ
body_place w e k = 4 + e * 10 + k * body_bytes w

-- an entry of the contents: id, slot, offset of the body
unfoldable pub entry_of : ℕ → ℕ → ℕ → List ℕ
entry_of id slot body = bytes_of 4 id ++ bytes_of 2 slot ++ bytes_of 4 body

-- a record's body: value, mask, rank, action
unfoldable pub body_of : ℕ → Words → List ℕ
body_of w x = pieces (λ j. bytes_of 8 (x j)) (2 * w) ++ bytes_of 4 (rank w x) ++ bytes_of 4 (action w x)

-- slot i holds a rule
abbrev pub holds : ℕ → List ℕ → ℕ → Bool
holds w t i = occupied w (slot_words w t i)

-- how many rules a table holds, and the slot of rule k, in rising slot order
abbrev pub rule_count : ℕ → List ℕ → ℕ
rule_count w t = length (indices (holds w t) (slots w t))

abbrev pub rule_slot : ℕ → List ℕ → ℕ → ℕ
rule_slot w t k = index (holds w t) (slots w t) k

-- rule k's entry and body
unfoldable pub entry_bytes : ℕ → List ℕ → ℕ → List ℕ
entry_bytes w t k = entry_of (ident w (slot_words w t (rule_slot w t k))) (rule_slot w t k) (body_place w (rule_count w t) k)

unfoldable pub rule_bytes : ℕ → List ℕ → ℕ → List ℕ
rule_bytes w t k = body_of w (slot_words w t (rule_slot w t k))

-- document 01's saved image of a table: slots, rules, contents, bodies
unfoldable pub image_of : ℕ → List ℕ → List ℕ
image_of w t =
    bytes_of 2 (slots w t) ++ bytes_of 2 (rule_count w t) ++ pieces (entry_bytes w t) (rule_count w t) ++ pieces (rule_bytes w t) (rule_count w t)

-- the fields of an image as they are read
abbrev pub slots_in : List ℕ → ℕ
slots_in b = number_at b 0 2

abbrev pub rules_in : List ℕ → ℕ
rules_in b = number_at b 2 2

abbrev pub id_at : List ℕ → ℕ → ℕ
id_at b k = number_at b (entry_place k) 4

abbrev pub entry_slot : List ℕ → ℕ → ℕ
entry_slot b k = number_at b (entry_place k + 4) 2

abbrev pub offset_at : List ℕ → ℕ → ℕ
offset_at b k = number_at b (entry_place k + 6) 4

-- the words of a body that starts at an offset, value and then mask
abbrev pub body_word : List ℕ → ℕ → Words
body_word b at j = number_at b (at + j * 8) 8

-- body k of an image of e rules, as it is read: the words of its pattern, and its rank
abbrev pub pattern_at : ℕ → List ℕ → ℕ → ℕ → Words
pattern_at w b e k = body_word b (body_place w e k)

abbrev pub rank_at : ℕ → List ℕ → ℕ → ℕ → ℕ
rank_at w b e k = number_at b (body_place w e k + 2 * w * 8) 4

-- the record that entry and body k mean
unfoldable pub record_at : ℕ → List ℕ → ℕ → ℕ → List ℕ
record_at w b e k =
    listed (2 * w) (pattern_at w b e k)
    ++ (id_at b k * 4294967296 + number_at b (body_place w e k + (2 * w * 8 + 4)) 4) ∷ rank_at w b e k ∷ []

module _ (w : ℕ) (t : List ℕ) where
  -- a buffer with the entries and bodies of the first k rules
  unfoldable pub stored : List ℕ → ℕ → List ℕ
  stored b k = store (store b 4 (pieces (entry_bytes w t) k)) (4 + rule_count w t * 10) (pieces (rule_bytes w t) k)
