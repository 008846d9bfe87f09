-- Document 02, 2026-02: the comparison is to read a slot's words in the table itself, with a contract of its own: exactly which keys the slot matches, an
-- empty one none. Worded of what the comparison returns, by the equation of its contract (`compared_at`), for any number of words of a value.
use Rattle.std.specs.Prelude.{◌≡◌, Bool, true, false, ◌↔◌, ◌⊎◌, List, ℕ, ◌+◌, ◌*◌, ◌<◌, get_or}
use Rattle.ternary.specs.Bit.{bit}
use Rattle.ternary.specs.Pattern.{Words}
use Rattle.records.specs.Record.{slot_words}
use Rattle.records.specs.Sound.{SoundRecord}
use Rattle.records.specs.Order.{slots}
use Rattle.records.specs.Checks.{check_records, compared_at}
use Rattle.records.specs.Verdict.{Pass}

-- slot i of a table
module _ (w : ℕ) (t : List ℕ) (i : ℕ) where
  -- its word k, in the table itself
  abbrev pub word_at : ℕ → ℕ
  word_at k = get_or t (i * (2 * w + 2) + k) 0

  -- its words are all zero
  abbrev pub EmptyAt : Type 0
  EmptyAt = (k : ℕ) → k < 2 * w + 2 → word_at k ≡ 0

  -- it holds a sound rule: id not 0, rank at most 65,535, or 65,536 where every mask bit is set, each value bit outside the mask 0
  abbrev pub RuleAt : Type 0
  RuleAt = SoundRecord w (slot_words w t i)

  -- a key equals its value, words 0 to w - 1, at every bit position that its mask, the next w words, cares for
  abbrev pub EqualsAt : Words → Type 0
  EqualsAt key = (j : ℕ) → j < w → (position : ℕ) → bit (word_at (w + j)) position ≡ 1 → bit (key j) position ≡ bit (word_at j) position

pub record KeysOfSlot (w : ℕ) (t : List ℕ) (i : ℕ) (key : Words) (found : Bool) : Type 0 where
  -- of every table that passes check 2 a slot is empty or holds a sound rule
  pub passed : check_records w t ≡ Pass → i < slots w t → EmptyAt w t i ⊎ RuleAt w t i
  -- of such a slot the comparison is true exactly for these keys
  pub exact : EmptyAt w t i ⊎ RuleAt w t i → (found ≡ true) ↔ (RuleAt w t i × EqualsAt w t i key)
  -- an empty one matches none, whatever the other slots hold
  pub none : EmptyAt w t i → found ≡ false

-- so it is of every answer of the comparison
abbrev pub Compares : Type 0
Compares = (w : ℕ) (t : List ℕ) (i : ℕ) (key : Words) (found : Bool) → found ≡ compared_at w t key i → KeysOfSlot w t i key found
