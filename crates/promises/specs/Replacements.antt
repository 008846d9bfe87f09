-- Document 02, 2026-03: when an unknown id has a present rule's value, mask and priority, the plan is one put-in at that slot, and the old rule counts as
-- deleted. A sound replacement in a sound table, given a word of buffer, always gets that plan. By 2026-07 the rank counts for the priority.
-- Why such a pair gives neither 8 nor 9 is in the rows of an insert, and that a put-in may overwrite such a rule in those of carrying out (refusals/Calls).
use Rattle.std.specs.Prelude.{◌≡◌, Bool, true, false, ◌↔◌, ◌⊎◌, List, ◌∷◌, ℕ, ◌≤◌, ◌<◌, length, drop}
use Rattle.ternary.specs.Pattern.{Words}
use Rattle.layout.specs.Write.{put}
use Rattle.plan_words.specs.PlanWords.{write_word}
use Rattle.records.specs.Record.{word, record_words, slot_words, ident, action, record_of, put_slot}
use Rattle.records.specs.Sound.{SoundRule}
use Rattle.records.specs.Order.{slots, EqualRules, Replaceable}
use Rattle.records.specs.Editions.{lent_rule, ranked}
use Rattle.records.specs.declared.Rule.{Rule}
use Rattle.histories.specs.RuleSet.{Change, insert, delete, without}
use Rattle.histories.specs.Inserted.{insert_changes, rules_inserted}
use Rattle.refusals.specs.Rows.{Accepts}
use Rattle.refusals.specs.Calls.{OneId, Ties, ReplacesNone, table_rows, crossed_row, new_rule_rows}
use Rattle.tcam.specs.Cells.{InsertLeft}
use Rattle.promises.specs.Calls.{CarriedOut}
use Rattle.promises.specs.ThirdDemand.{Stands}

-- the rule that is lent with edition e, with its rank, and its record
abbrev pub sent_rule : ℕ → ℕ → List ℕ → Rule
sent_rule w e rule = ranked w (lent_rule w e rule)

abbrev pub sent_words : ℕ → ℕ → List ℕ → Words
sent_words w e rule = word (record_of w (sent_rule w e rule))

-- It is sent to a sound table: the rule is sound, its edition is 10 or 13, and its id is unknown. Whether a slot is empty is not asked.
pub record Sent (w : ℕ) (u : Bool) (e : ℕ) (t rule : List ℕ) : Type 0 where
  pub words : length rule ≡ record_words w
  pub table : Accepts (table_rows w u t)
  pub sound : SoundRule w (lent_rule w e rule).rule
  pub edition : (e ≡ 10) ⊎ (e ≡ 13)
  pub unknown : (i : ℕ) → i < slots w t → OneId w (slot_words w t i) (sent_words w e rule) → ⊥

-- It is sent again: slot s holds a rule of the same value, mask and rank. By 2026-11, in an uncounted table, the rule in slot s has the same action too, and
-- of several such s is the lowest.
pub record SentAgain (w : ℕ) (u : Bool) (e : ℕ) (t rule : List ℕ) (s : ℕ) : Type 0 where
  pub sent : Sent w u e t rule
  pub inside : s < slots w t
  pub replaced : Replaceable w u (slot_words w t s) (sent_words w e rule)
  pub lowest : u ≡ true → (i : ℕ) → i < s → Replaceable w u (slot_words w t i) (sent_words w e rule) → ⊥

-- the rule in slot s has the same value, mask and rank, and another action
pub record SentForAnother (w : ℕ) (u : Bool) (e : ℕ) (t rule : List ℕ) (s : ℕ) : Type 0 where
  pub sent : Sent w u e t rule
  pub inside : s < slots w t
  pub equal : EqualRules w (slot_words w t s) (sent_words w e rule)
  pub differ : action w (slot_words w t s) ≡ action w (sent_words w e rule) → ⊥

-- w is the width that the calls name, and is one that there is
pub record Replacements (w : ℕ) (u : Bool) : Type 0 where
  -- the rows of an insert without 11 accept exactly what demand 3 covers and what is sent again: each accepted insert replaces no rule or one, and a rule
  -- that is sent again is accepted, in a full table too
  pub either : (e : ℕ) (t rule : List ℕ) → length rule ≡ record_words w → Accepts (new_rule_rows w u t (lent_rule w e rule))
      → ReplacesNone w u t (sent_words w e rule) ⊎ ((s : ℕ) × SentAgain w u e t rule s)
  pub accepted : (e : ℕ) (t rule : List ℕ) (s : ℕ) → SentAgain w u e t rule s → Accepts (new_rule_rows w u t (lent_rule w e rule))
  -- given a word of buffer the call plans one put-in at that slot and leaves the words past it; without one it declines with 11 and 1 as the words needed
  pub enough : (e : ℕ) (t rule : List ℕ) (s : ℕ) → SentAgain w u e t rule s
      → (result : ℕ) (plan after : List ℕ) (count count' spot spot' : ℕ) → InsertLeft w u e t rule result plan after count count' spot spot'
      → 1 ≤ length plan → (result ≡ 0) × (count' ≡ 1) × (after ≡ write_word (put s) ∷ drop 1 plan)
  pub short : (e : ℕ) (t rule : List ℕ) (s : ℕ) → SentAgain w u e t rule s
      → (result : ℕ) (plan after : List ℕ) (count count' spot spot' : ℕ) → InsertLeft w u e t rule result plan after count count' spot spot'
      → length plan < 1 → (result ≡ 11) × (spot' ≡ 1) × (after ≡ plan)
  -- no lower slot holds an equal rule, of whatever action, and in a counted table no other slot does; it ties with no other rule, and is not crossed
  pub lowest : (e : ℕ) (t rule : List ℕ) (s : ℕ) → SentAgain w u e t rule s
      → (i : ℕ) → i < slots w t → EqualRules w (slot_words w t i) (sent_words w e rule) → s ≤ i
  pub once : u ≡ false → (e : ℕ) (t rule : List ℕ) (s : ℕ) → SentAgain w u e t rule s
      → (i : ℕ) → i < slots w t → Replaceable w u (slot_words w t i) (sent_words w e rule) → i ≡ s
  pub untied : (e : ℕ) (t rule : List ℕ) (s : ℕ) → SentAgain w u e t rule s
      → (i : ℕ) → i < slots w t → (i ≡ s → ⊥) → Ties w u (slot_words w t i) (sent_words w e rule) → ⊥
  pub uncrossed : (e : ℕ) (t rule : List ℕ) (s : ℕ) → SentAgain w u e t rule s → (crossed_row w u t (sent_words w e rule)).condition → ⊥
  -- 2026-11: where an equal rule in an uncounted table has another action, the call declines with 8 and leaves the buffer
  pub otherwise : u ≡ true → (e : ℕ) (t rule : List ℕ) (s : ℕ) → SentForAnother w u e t rule s
      → (result : ℕ) (plan after : List ℕ) (count count' spot spot' : ℕ) → InsertLeft w u e t rule result plan after count count' spot spot'
      → (result ≡ 8) × (after ≡ plan)
  -- carried out: that slot has the rule's record, the table is sound, and in it stand the new rule and those of before without that of the slot's id: other
  -- rules that are equal to it stand as before
  pub carried : (e : ℕ) (t rule : List ℕ) (s : ℕ) → SentAgain w u e t rule s
      → (plan after : List ℕ) (count count' spot spot' : ℕ) → InsertLeft w u e t rule 0 plan after count count' spot spot'
      → (v : List ℕ) → CarriedOut w e t after rule count' v
      → (v ≡ put_slot w t s (record_of w (sent_rule w e rule))) × Accepts (table_rows w u v)
      × ((x : List ℕ) → Stands w v x ↔ ((Stands w t x × (ident w (word x) ≡ ident w (slot_words w t s) → ⊥)) ⊎ (record_of w (sent_rule w e rule) ≡ x)))
  -- what demand 2 says of the rules after an insert (SecondDemand), and of its history (CameTo): the rule, and those of before without the replaced one, which
  -- counts as deleted; where none is replaced all of those
  pub replaced : (e : ℕ) (t rule : List ℕ) (s : ℕ) → SentAgain w u e t rule s → (rules : List Rule) (history : List Change)
      → (rules_inserted w u t (sent_rule w e rule) rules ≡ sent_rule w e rule ∷ without (ident w (slot_words w t s)) rules)
      × (insert_changes w u t (sent_rule w e rule) history ≡ insert (sent_rule w e rule) ∷ delete (ident w (slot_words w t s)) ∷ history)
  pub added : (t : List ℕ) (rule : Rule) → ReplacesNone w u t (word (record_of w rule)) → (rules : List Rule) (history : List Change)
      → (rules_inserted w u t rule rules ≡ rule ∷ rules) × (insert_changes w u t rule history ≡ insert rule ∷ history)
