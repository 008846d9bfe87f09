-- Slot records: which word is what, when a slot is empty, when a rule is sound, and a rule's record.
-- w is the number of words of a value; document 01 has two, so that a record has six.
use Rattle.std.specs.Prelude.{Bool, not, ◌&&◌, ◌||◌, List, [], ◌∷◌, ◌++◌, ℕ, zero, suc, ◌+◌, ◌*◌, ◌/◌, ◌%◌, min, eqb, leb, get_or, take, drop}
use Rattle.search.specs.Search.{all}
use Rattle.ternary.specs.Pattern.{Words, matches, within, full_mask}
use Rattle.records.specs.declared.Rule.{Rule}

-- the words of a list, by their index
abbrev pub word : List ℕ → Words
word l j = get_or l j 0

-- the first n words, as a list
unfoldable pub listed : ℕ → Words → List ℕ
listed zero f = []
listed (suc n) f = listed n f ++ (f n ∷ [])

-- how many words a slot record has
abbrev pub record_words : ℕ → ℕ
record_words w = 2 * w + 2

-- document 01: a table has at most so many slots, and so many words
abbrev pub most_slots : ℕ
most_slots = 1024

abbrev pub most_words : ℕ → ℕ
most_words w = most_slots * record_words w

-- the record in slot i of a table, read in the table itself
abbrev pub slot_words : ℕ → List ℕ → ℕ → Words
slot_words w t i j = get_or t (i * record_words w + j) 0

-- the parts of a record: value words, mask words, id × 2^32 + action, rank (the number that order compares: document 01's priority, document 02's rank)
abbrev pub value : Words → Words
value x j = x j

abbrev pub mask : ℕ → Words → Words
mask w x j = x (w + j)

abbrev pub ident : ℕ → Words → ℕ
ident w x = x (2 * w) / 4294967296

abbrev pub action : ℕ → Words → ℕ
action w x = x (2 * w) % 4294967296

abbrev pub rank : ℕ → Words → ℕ
rank w x = x (2 * w + 1)

-- document 01: six zero words are an empty slot
unfoldable pub empty : ℕ → Words → Bool
empty w x = all (λ (j : ℕ). eqb (x j) 0) (record_words w)

abbrev pub occupied : ℕ → Words → Bool
occupied w x = not (empty w x)

-- document 02: a record's rank is a priority, or 65,536 where every mask bit is set
unfoldable pub rank_fits : ℕ → ℕ → Words → Bool
rank_fits w rank mask = leb rank 65535 || (eqb rank 65536 && full_mask w mask)

-- document 01: id not 0, priority in its range, each value bit outside the mask 0
unfoldable pub sound_parts : ℕ → ℕ → Bool → Words → Words → Bool
sound_parts w id ranged value mask = not (eqb id 0) && ranged && within w value mask

-- a record of a table, and a rule with its rank for its priority
abbrev pub sound : ℕ → Words → Bool
sound w x = sound_parts w (ident w x) (rank_fits w (rank w x) (mask w x)) (value x) (mask w x)

abbrev pub sound_ranked : ℕ → Rule → Bool
sound_ranked w r = sound_parts w r.id (rank_fits w r.priority (word r.mask)) (word r.value) (word r.mask)

-- a rule as a call is given it, priority 0 to 65,535; and one that is lent as a record, whose last word is that priority
abbrev pub sound_rule : ℕ → Rule → Bool
sound_rule w r = sound_parts w r.id (leb r.priority 65535) (word r.value) (word r.mask)

abbrev pub sound_lent : ℕ → Words → Bool
sound_lent w x = sound_parts w (ident w x) (leb (rank w x) 65535) (value x) (mask w x)

abbrev pub pattern_matches : ℕ → Words → Words → Bool
pattern_matches w key x = matches w key (value x) (mask w x)

-- exactly which keys a slot matches: an empty one none
unfoldable pub slot_matches : ℕ → Words → Words → Bool
slot_matches w key x = pattern_matches w key x && occupied w x

-- document 01's slot record of a rule
unfoldable pub record_of : ℕ → Rule → List ℕ
record_of w r = listed w (word r.value) ++ listed w (word r.mask) ++ (r.id * 4294967296 + r.action) ∷ r.priority ∷ []

-- the rule of a record; a priority word of more than 32 bits, which no sound record has, becomes the largest number of 32 bits
unfoldable pub rule_of : ℕ → Words → Rule
rule_of w x = record {
  id = ident w x;
  priority = min (rank w x) 4294967295;
  value = listed w (value x);
  mask = listed w (mask w x);
  action = action w x;
}

-- the table with a record's words in slot i
unfoldable pub put_slot : ℕ → List ℕ → ℕ → List ℕ → List ℕ
put_slot w t i words = take (i * record_words w) t ++ words ++ drop (i * record_words w + record_words w) t
