-- Document 02, 2026-05: the comparison of two rules tells four things: apart, overlapping, the first covers the second, the second covers the first; equal
-- matches count as the first covering. A successful insert also names the lowest slot of a higher-priority rule that alone covers the new one in the table
-- before the plan, or says there is none. The plan is unaffected. By 2026-07 the rank counts for the priority. Document 000: such a rule is obscured.
use Rattle.std.specs.Prelude.{◌≡◌, Bool, true, false, ◌↔◌, ◌⊎◌, List, ℕ, ◌<◌, length}
use Rattle.ternary.specs.Pattern.{Words, Matches}
use Rattle.ternary.specs.Comparison.{Covers, WordsFit, not_apart}
use Rattle.ternary.specs.declared.Comparison.TheVariants.{Apart, Overlapping, FirstCovers, SecondCovers}
use Rattle.records.specs.Record.{slot_words, value, mask, ident, occupied, record_of}
use Rattle.records.specs.Order.{slots, overlapping, slot_comparison, Obscures, InOrder}
use Rattle.records.specs.Entries.{entry_at}
use Rattle.records.specs.declared.Rule.{Rule}
use Rattle.buffers.specs.Buffers.{without_cover}
use Rattle.refusals.specs.Rows.{Accepts}
use Rattle.refusals.specs.Calls.{table_rows}
use Rattle.lookups.specs.Lookup.{FirstAt}
use Rattle.neighbours.specs.Neighbours.{CoveredAt, Uncovered}
use Rattle.insert_plans.specs.Inserts.{insert_call, insert_call_reply}
use Rattle.histories.specs.RuleSet.{Member}
use Rattle.tcam.specs.Cells.{LookupLeft, InsertLeft, CoverLeft}
use Rattle.promises.specs.FirstDemand.{IsRefusal}
use Rattle.promises.specs.SecondDemand.{AllReplied}
use Rattle.promises.specs.ThirdDemand.{Stands}
use Rattle.promises.specs.Replacements.{sent_rule, sent_words}

-- a key matches a record's pattern
abbrev pub KeyOf : ℕ → Words → Words → Type 0
KeyOf w key x = Matches w key (value x) (mask w x)

-- each key of the one record, of 64 bits a word, is a key of the other; and no key is one of both
abbrev pub EachKey : ℕ → Words → Words → Type 0
EachKey w a b = (key : Words) → WordsFit w key → KeyOf w key a → KeyOf w key b

abbrev pub NoKey : ℕ → Words → Words → Type 0
NoKey w a b = (key : Words) → WordsFit w key → KeyOf w key a → KeyOf w key b → ⊥

-- The comparison of two records, for any number of words.
pub record Comparing (w : ℕ) (a b : Words) : Type 0 where
  -- of records whose value and mask words have 64 bits: exactly when no key matches both; when each key of the second matches the first; when each key of
  -- the first matches the second and not conversely; and when none of these
  pub apart : (slot_comparison w a b ≡ Apart) ↔ NoKey w a b
  pub first : (slot_comparison w a b ≡ FirstCovers) ↔ EachKey w b a
  pub second : (slot_comparison w a b ≡ SecondCovers) ↔ (EachKey w a b × (EachKey w b a → ⊥))
  pub neither : (slot_comparison w a b ≡ Overlapping) ↔ ((NoKey w a b → ⊥) × (EachKey w b a → ⊥) × (EachKey w a b × (EachKey w b a → ⊥) → ⊥))
  -- the first covers exactly where each bit that it cares for the second cares for too, with the same value: so Obscures, below, has it
  pub bits : (slot_comparison w a b ≡ FirstCovers) ↔ Covers w (value a) (mask w a) (value b) (mask w b)
  -- equal matches count as the first covering
  pub equal : EachKey w a b → EachKey w b a → slot_comparison w a b ≡ FirstCovers
  -- what was told before, whether the two overlap, is whether they are not apart; order, ties and neighbours ask no more
  pub before : overlapping w a b ≡ not_apart (slot_comparison w a b)

-- of records whose words have 64 bits, as those of a table
abbrev pub AllCompared : ℕ → Type 0
AllCompared w = (a b : Words) → WordsFit w (value a) → WordsFit w (mask w a) → WordsFit w (value b) → WordsFit w (mask w b) → Comparing w a b

-- w is the width that the calls name; u whether they name the table as uncounted: cover asks neither it nor the actions
pub record Obscured (w : ℕ) (u : Bool) : Type 0 where
  -- an insert that returns 0 leaves in its cell the slot exactly where it is the lowest of a higher-ranked rule that alone covers the new one, in the table
  -- before the plan, and 65,535 exactly where there is none; of a replacement too
  pub told : (e : ℕ) (t rule plan after : List ℕ) (count count' spot spot' covered covered' : ℕ) → InsertLeft w u e t rule 0 plan after count count' spot spot'
      → CoverLeft w u e t rule (length plan) covered covered'
      → ((covered' < slots w t) ⊎ (covered' ≡ 65535))
      × ((c : ℕ) → ((c < slots w t) × (covered' ≡ c)) ↔ CoveredAt w t (sent_words w e rule) c) × ((covered' ≡ 65535) ↔ Uncovered w t (sent_words w e rule))
  -- a refusal leaves the cell as it was
  pub kept : (e : ℕ) (t rule : List ℕ) (result : ℕ) (plan after : List ℕ) (count count' spot spot' covered covered' : ℕ)
      → InsertLeft w u e t rule result plan after count count' spot spot' → CoverLeft w u e t rule (length plan) covered covered'
      → IsRefusal result → covered' ≡ covered
  -- number, count and spot are those of before; the plan's equation (InsertLeft) does not name the slot
  pub unaffected : (e : ℕ) (t rule : List ℕ) (room : ℕ) → without_cover (insert_call_reply w u e t rule room) ≡ insert_call w u e t rule room
  -- in a counted table in order, also between two writes of a plan, a rule that another one in it obscures is no key's first match
  pub unmet : (v : List ℕ) → InOrder w false v → (x y : ℕ) → x < slots w v → occupied w (slot_words w v y) ≡ true
      → (ident w (slot_words w v x) ≡ ident w (slot_words w v y) → ⊥) → Obscures w (slot_words w v x) (slot_words w v y) → (key : Words) → FirstAt w v key y → ⊥
  -- So, while the covering rule stands, no key of a counted table is answered by the new rule: in every sound table in which both stand a lookup that is
  -- answered names another id or tells a miss. The rule of the slot that was told has the record that the slot had.
  pub stands : (e : ℕ) (t rule plan after : List ℕ) (count count' spot spot' covered covered' : ℕ)
      → InsertLeft w u e t rule 0 plan after count count' spot spot' → CoverLeft w u e t rule (length plan) covered covered' → covered' < slots w t
      → (v : List ℕ) → Accepts (table_rows w false v) → Stands w v (entry_at w t covered') → Stands w v (record_of w (sent_rule w e rule))
      → (key : List ℕ) (slot slot' id id' action action' place place' : ℕ) → LookupLeft w v key 0 slot slot' id id' action action' place place'
      → id' ≡ (sent_rule w e rule).id → ⊥
  -- The same by the rules that keys are answered by, as SecondDemand has them at every write of a plan: where the covering rule is one of them, and of the new
  -- rule's id there is no other.
  pub never : (e : ℕ) (t rule plan after : List ℕ) (count count' spot spot' covered covered' : ℕ)
      → InsertLeft w u e t rule 0 plan after count count' spot spot' → CoverLeft w u e t rule (length plan) covered covered' → covered' < slots w t
      → (v : List ℕ) (rules : List Rule) → AllReplied w false v rules → (cover : Rule) → Member cover rules → record_of w cover ≡ entry_at w t covered'
      → ((other : Rule) → Member other rules → other.id ≡ (sent_rule w e rule).id → record_of w other ≡ record_of w (sent_rule w e rule))
      → (key : List ℕ) → length key ≡ w → (result slot slot' id id' action action' place place' : ℕ)
      → LookupLeft w v key result slot slot' id id' action action' place place' → id' ≡ (sent_rule w e rule).id → ⊥
