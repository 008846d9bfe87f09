-- Document 01, demand 3: for every sound table with an empty slot, whatever its layout, and every sound rule of new id that ties with none and is not
-- crossed, an insert given buffer enough returns a plan and its count of writes. The plan moves rules toward one end only, loses no rule, keeps the table
-- in order after every write and ends with the new rule in place; and every other sequence of writes that does all this from the same table has at least
-- as many writes.
use Rattle.std.specs.Prelude.{◌≡◌, Bool, true, ◌↔◌, ◌⊎◌, List, ◌++◌, ℕ, suc, ◌+◌, ◌*◌, ◌≤◌, ◌<◌, length, get_or, set, take, drop}
use Rattle.layout.specs.Order.{Higher, Lower}
use Rattle.layout.specs.Write.{copy, put}
use Rattle.plan_words.specs.PlanWords.{write_of}
use Rattle.records.specs.Record.{word, record_words, slot_words, empty, occupied, record_of}
use Rattle.records.specs.Order.{slots, InOrder}
use Rattle.records.specs.Entries.{entry_at}
use Rattle.records.specs.Writes.{apply_words}
use Rattle.records.specs.Inserts.{insert_choice_of}
use Rattle.records.specs.Editions.{lent_rule, ranked}
use Rattle.records.specs.declared.Rule.{Rule}
use Rattle.refusals.specs.Rows.{Accepts}
use Rattle.refusals.specs.Calls.{OneId, ReplacesNone, new_rule_rows}
use Rattle.tcam.specs.Cells.{InsertLeft}

-- a write to slot j loses no rule: it is empty, or its id stands in another slot too
abbrev pub LosesNone : ℕ → List ℕ → ℕ → Type 0
LosesNone w t j =
    (empty w (slot_words w t j) ≡ true) ⊎ ((k : ℕ) × (k < slots w t) × (k ≡ j → ⊥) × OneId w (slot_words w t k) (slot_words w t j))

-- A sequence of writes, of any length, from a table and a rule, toward one end: each write but the last copies a rule from one slot to another that way,
-- the last puts the new rule in; none loses a rule; after each the table is in order.
pub record WritesToward (toward : ℕ → ℕ → Type 0) (w : ℕ) (u : Bool) (t : List ℕ) (rule : Rule) (words : List ℕ) : Type 0 where
  pub some : 0 < length words
  pub copies : (k : ℕ) → suc k < length words
      → (from : ℕ) × (to : ℕ) × (write_of (get_or words k 0) ≡ copy from to) × toward from to
      × (from < slots w (apply_words w t rule (take k words))) × (occupied w (slot_words w (apply_words w t rule (take k words)) from) ≡ true)
      × (to < slots w (apply_words w t rule (take k words))) × LosesNone w (apply_words w t rule (take k words)) to
  pub last : (k : ℕ) → suc k ≡ length words
      → (to : ℕ) × (write_of (get_or words k 0) ≡ put to)
      × (to < slots w (apply_words w t rule (take k words))) × LosesNone w (apply_words w t rule (take k words)) to
  pub order : (k : ℕ) → k < length words → InOrder w u (apply_words w t rule (take (suc k) words))

-- the comparison class: toward higher slots, or toward lower
abbrev pub OneWay : ℕ → Bool → List ℕ → Rule → List ℕ → Type 0
OneWay w u t rule words = WritesToward Higher w u t rule words ⊎ WritesToward Lower w u t rule words

-- a rule's record stands in some slot
abbrev pub Stands : ℕ → List ℕ → List ℕ → Type 0
Stands w t x = (occupied w (word x) ≡ true) × ((i : ℕ) × (i < slots w t) × (entry_at w t i ≡ x))

-- What tcam_plan_insert returned and left: words are the plan; the rule is the one that was lent, with its rank.
pub record InsertPlanned (w : ℕ) (u : Bool) (t : List ℕ) (rule : Rule) (result : ℕ) (plan after : List ℕ) (count count' spot spot' : ℕ) : Type 0 where
  pub words : List ℕ
  -- it moves rules toward one end only, loses none, keeps the table in order, and its last write puts the new rule in
  pub class : OneWay w u t rule words
  -- after it each old rule stands, and the new one, and none besides, each in one slot
  pub stands : (x : List ℕ) → Stands w (apply_words w t rule words) x ↔ (Stands w t x ⊎ (record_of w rule ≡ x))
  pub once : (i k : ℕ) → i < k → k < slots w (apply_words w t rule words)
      → OneId w (slot_words w (apply_words w t rule words) i) (slot_words w (apply_words w t rule words) k) → ⊥
  -- no other sequence that does all this is shorter
  pub least : (other : List ℕ) → OneWay w u t rule other → length words ≤ length other
  -- buffer enough is the cost plus 1, and as many words as the table has slots always do
  pub cost : length words ≡ suc (insert_choice_of w u t rule).cost
  pub few : length words ≤ slots w t
  -- given buffer enough the call returns the plan and its count, and leaves the words past it; else it declines with 11 and the words needed
  pub enough : length words ≤ length plan → (result ≡ 0) × (count' ≡ length words) × (after ≡ words ++ drop (length words) plan)
  pub short : length plan < length words → (result ≡ 11) × (spot' ≡ length words) × (after ≡ plan)

-- Document 01 words the premises by the checks: a table that passes 1 to 4 is sound; a rule that passes 5 to 8 is sound, of new id and ties with none; 9 is
-- the empty slot, 10 the crossed neighbours; document 02 adds 18: a rule given with another edition is not sound in this sense. These are the rows of an
-- insert without 11. Demand 3 covers inserts that are not replacements (2026-03): no slot holds a rule of the same value, mask and rank. The rule is lent as
-- a record of as many words, whose last word becomes the rank in the record that stands; w is the width that the call names, and is one that there is.
pub record ThirdDemand (w : ℕ) (u : Bool) : Type 0 where
  pub plans : (e : ℕ) (t rule : List ℕ) → length rule ≡ record_words w → Accepts (new_rule_rows w u t (lent_rule w e rule))
      → ReplacesNone w u t (word (record_of w (ranked w (lent_rule w e rule))))
      → (result : ℕ) (plan after : List ℕ) (count count' spot spot' : ℕ) → InsertLeft w u e t rule result plan after count count' spot spot'
      → InsertPlanned w u t (ranked w (lent_rule w e rule)) result plan after count count' spot spot'
      × (record_of w (ranked w (lent_rule w e rule)) ≡ set rule (2 * w + 1) (ranked w (lent_rule w e rule)).priority)
