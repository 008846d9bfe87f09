-- Maps of slots by bit place and value. Word 32 k + 16 v + b of the maps has a bit for each slot of block b (64 slots):
-- set only where that slot cares at place k of the chosen places with value v. A screen: a bit that is not set says nothing.
use Rattle.std.specs.Prelude.{◌≡◌, List, ℕ, zero, suc, ◌+◌, ◌-◌, ◌*◌, ◌/◌, ◌%◌, ◌<◌, ◌≤◌, get_or, set}
use Rattle.std.specs.Int.Bits.{bit_or}
use Rattle.ternary.specs.Bit.{bit}
use Rattle.ternary.specs.Pattern.{Words}
use Rattle.records.specs.Record.{slot_words, value, mask}
use Rattle.bitmaps.specs.Flags.{with_bit}

-- the bit of some words at a place: word place / 64, bit place % 64
abbrev pub placed : Words → ℕ → ℕ
placed x p = bit (x (p / 64)) (p % 64)

-- the words of the first k rows at a block, joined by or
unfoldable pub gathered : List ℕ → List ℕ → ℕ → ℕ → ℕ
gathered maps rows block zero = 0
gathered maps rows block (suc k) = bit_or (gathered maps rows block k) (get_or maps (get_or rows k 0 + block) 0)

-- the maps with bit s of each of k words set: word at block of each row
unfoldable pub noted : List ℕ → List ℕ → ℕ → ℕ → ℕ → List ℕ
noted maps rows block s zero = maps
noted maps rows block s (suc k) =
    set (noted maps rows block s k) (get_or rows k 0 + block) (with_bit (get_or (noted maps rows block s k) (get_or rows k 0 + block) 0) s)

-- slot i cares at place p, with value v
pub record Says (w : ℕ) (t : List ℕ) (i p v : ℕ) : Type 0 where
  pub cares : placed (mask w (slot_words w t i)) p ≡ 1
  pub valued : placed (value (slot_words w t i)) p ≡ v

-- a bit of the maps: its slot is below j, and cares at the word's place with the word's value
pub record Mark (w : ℕ) (t places : List ℕ) (j a s : ℕ) : Type 0 where
  pub earlier : 64 * (a % 16) + s < j
  pub says : Says w t (64 * (a % 16) + s) (get_or places (a / 32) 0) (a / 16 % 2)

abbrev pub Screen : ℕ → List ℕ → List ℕ → List ℕ → ℕ → Type 0
Screen w t places maps j = (a s : ℕ) → bit (get_or maps a 0) s ≡ 1 → Mark w t places j a s

-- row a of the maps, at whose place a slot cares with value v: the slot's own row, and the one of the other value
pub record RowAt (w : ℕ) (t places : List ℕ) (count j a v : ℕ) : Type 0 where
  pub start : a % 16 ≡ 0
  pub known : a / 32 < count
  pub says : Says w t j (get_or places (a / 32) 0) v

abbrev pub Own : ℕ → List ℕ → List ℕ → ℕ → ℕ → ℕ → Type 0
Own w t places count j a = RowAt w t places count j a (a / 16 % 2)

abbrev pub Other : ℕ → List ℕ → List ℕ → ℕ → ℕ → ℕ → Type 0
Other w t places count j a = RowAt w t places count j a (1 - a / 16 % 2)

-- the first k rows of two lists are a slot's
pub record Both (w : ℕ) (t places : List ℕ) (count j a b : ℕ) : Type 0 where
  pub other : Other w t places count j a
  pub own : Own w t places count j b

abbrev pub RowsOf : ℕ → List ℕ → List ℕ → ℕ → ℕ → List ℕ → List ℕ → ℕ → Type 0
RowsOf w t places count j others own k = (m : ℕ) → m < k → Both w t places count j (get_or others m 0) (get_or own m 0)

-- chosen places as bits of words, bit t of a word for place 64 * word + t, with the first row of each by its place
abbrev pub Spread : List ℕ → ℕ → List ℕ → List ℕ → Type 0
Spread places count chosen rows = (word t : ℕ) → t < 64 → bit (get_or chosen word 0) t ≡ 1
    → (k : ℕ) × (k < count) × (get_or rows (64 * word + t) 0 ≡ 32 * k) × (get_or places k 0 ≡ 64 * word + t)

-- the sum of the first k of a row of numbers
unfoldable pub sum_of : (ℕ → ℕ) → ℕ → ℕ
sum_of f zero = 0
sum_of f (suc k) = sum_of f k + f k

-- how many bits of a word are set below a place, and how many of the first k words of a list
abbrev pub ones : ℕ → ℕ → ℕ
ones x = sum_of (bit x)

abbrev pub total : List ℕ → ℕ → ℕ
total words = sum_of (λ (word : ℕ). ones (get_or words word 0) 64)

-- in the middle of a walk over the set bits of a word, the highest first: what is left are bits of the word below a place, and
-- there is room for the rows used so far and for one of each bit below that place
pub record Walk (word left used room : ℕ) : Type 0 where
  pub place : ℕ
  pub fits : used + ones word place ≤ room
  pub none : (i : ℕ) → place ≤ i → bit left i ≡ 0
  pub was : (i : ℕ) → bit left i ≡ 1 → bit word i ≡ 1
