-- The premises of demand 3 in plain terms, those of a replacement, and what it means that an insert is crossed at a slot.
use Rattle.std.specs.Prelude.{◌≡◌, Bool, true, false, List, ℕ, ◌<◌, length}
use Rattle.ternary.specs.Pattern.{Words}
use Rattle.records.specs.Record.{word, record_words, slot_words, empty, sound_rule, sound_ranked, record_of}
use Rattle.records.specs.Order.{slots, precedes, Replaceable}
use Rattle.records.specs.Checks.{table_checks}
use Rattle.records.specs.Widths.{Width}
use Rattle.records.specs.Editions.{Given, lent_rule, ranked, Edition}
use Rattle.records.specs.Inserts.{Untied, IdNew}
use Rattle.records.specs.declared.Rule.{Rule}
use Rattle.records.specs.Verdict.{Pass}

-- document 01: A > B is crossed. Not crossed: every rule that precedes the new one stands before every rule that depends on it
abbrev pub Uncrossed : ℕ → Bool → List ℕ → Words → Type 0
Uncrossed w u t new =
    (i k : ℕ) → i < slots w t → k < slots w t → precedes w u (slot_words w t i) new ≡ true → precedes w u new (slot_words w t k) ≡ true → i < k

-- document 01, demand 3's premises of a rule that has its rank: the table passes checks 1 to 4, the rule is sound, its id is new, it ties with no
-- rule, a slot is empty, and the rule is not crossed; by document 02, 2026-11, in an uncounted table it replaces none, which in a counted one follows
pub record Insertable (w : ℕ) (u : Bool) (t : List ℕ) (rule : Rule) : Type 0 where
  pub table : table_checks w u t ≡ Pass
  pub sound : sound_ranked w rule ≡ true
  pub new : IdNew w t rule
  pub untied : Untied w u t rule
  pub room : (e : ℕ) × (e < slots w t) × (empty w (slot_words w t e) ≡ true)
  pub uncrossed : Uncrossed w u t (word (record_of w rule))
  pub adds : u ≡ true → (i : ℕ) → i < slots w t → Replaceable w u (slot_words w t i) (word (record_of w rule)) → ⊥

-- document 02: the same of a rule as it is given: it is sound, its edition is 10 or 13, and with its rank it is insertable
pub record InsertableGiven (w : ℕ) (u : Bool) (t : List ℕ) (given : Given) : Type 0 where
  pub sound : sound_rule w given.rule ≡ true
  pub edition : Edition given.edition
  pub insertable : Insertable w u t (ranked w given)

-- and as it is lent with a call: the width is 2 or 5, and the rule a record of so many words
pub record InsertableCall (w : ℕ) (u : Bool) (e : ℕ) (t rule : List ℕ) : Type 0 where
  pub width : Width w
  pub words : length rule ≡ record_words w
  pub given : InsertableGiven w u t (lent_rule w e rule)

-- Document 02, 2026-03: the rule, with its rank, replaces the one in slot s: the table passes checks 1 to 4, the rule is sound, its id is new, and the
-- slot holds a rule of the same value, mask and rank. By 2026-11, in an uncounted table, of the same action too, and of several such the slot is the
-- lowest; in a counted one there is no other.
pub record Replacing (w : ℕ) (u : Bool) (t : List ℕ) (rule : Rule) (s : ℕ) : Type 0 where
  pub table : table_checks w u t ≡ Pass
  pub sound : sound_ranked w rule ≡ true
  pub new : IdNew w t rule
  pub inside : s < slots w t
  pub replaced : Replaceable w u (slot_words w t s) (word (record_of w rule))
  pub lowest : u ≡ true → (i : ℕ) → i < s → Replaceable w u (slot_words w t i) (word (record_of w rule)) → ⊥

-- the same of a rule as it is given
pub record ReplacingGiven (w : ℕ) (u : Bool) (t : List ℕ) (given : Given) (s : ℕ) : Type 0 where
  pub sound : sound_rule w given.rule ≡ true
  pub edition : Edition given.edition
  pub replacing : Replacing w u t (ranked w given) s

-- document 01: a is A, the highest slot holding a rule that precedes the new one, and in some slot before it a rule depends on the new one
pub record CrossedAt (w : ℕ) (u : Bool) (t : List ℕ) (new : Words) (a : ℕ) : Type 0 where
  pub within : a < slots w t
  pub preceding : precedes w u (slot_words w t a) new ≡ true
  pub last : (i : ℕ) → a < i → i < slots w t → precedes w u (slot_words w t i) new ≡ false
  pub dependant : (b : ℕ) × (b < a) × (precedes w u new (slot_words w t b) ≡ true)
