-- Document 02, 2026-07: in 1.0 an entry without wildcards stands above all that have them; from 1.1 on only the priority field counts. The record keeps the
-- rank. An upgrade from 1.0 to 1.3 writes nothing: rules present keep their rank, later ones get theirs by the new edition.
-- Which rank an edition gives a rule is `Ranks`, and that each insert of a history names its own edition `CameTo` (SecondDemand, Calls); of the calls that
-- read a table, save and load it none takes an edition.
use Rattle.std.specs.Prelude.{◌≡◌, Bool, List, ℕ, ◌<◌, length}
use Rattle.ternary.specs.Pattern.{Words, FullMask}
use Rattle.records.specs.Record.{word, record_words, slot_words, mask, ident, rank, record_of}
use Rattle.records.specs.Sound.{SoundRecord, SoundRule}
use Rattle.records.specs.Order.{slots, Replaceable}
use Rattle.records.specs.Entries.{entry_at}
use Rattle.records.specs.Editions.{Given, lent_rule, ranked}
use Rattle.records.specs.declared.Rule.{Rule}
use Rattle.refusals.specs.Rows.{Accepts}
use Rattle.refusals.specs.Calls.{table_rows}
use Rattle.tcam.specs.Cells.{InsertLeft, DeleteLeft}
use Rattle.promises.specs.Calls.{CarriedOut}
use Rattle.promises.specs.ThirdDemand.{Stands}

-- the number that order compares of a rule given under 1.0
abbrev pub rank10 : ℕ → Rule → ℕ
rank10 w rule = (ranked w (record { rule = rule; edition = 10 })).priority

pub record Editions (w : ℕ) (u : Bool) : Type 0 where
  -- a sound rule gives a sound record, whichever edition it is given with: what is put in passes check 2
  pub sound : (given : Given) → given.rule.action < 4294967296 → SoundRule w given.rule → SoundRecord w (word (record_of w (ranked w given)))
  -- under 1.0 a rule without wildcards stands above every record that has them, whatever the priorities and whichever edition that came with
  pub above : (exact : Rule) (x : Words) → FullMask w (word exact.mask) → SoundRecord w x → (FullMask w (mask w x) → ⊥) → rank w x < rank10 w exact
  -- each rule that stood before an insert, of whatever edition, and is not the one that it replaces (2026-03; 2026-11: of several the lowest), stands after it
  -- with the record that it had, its rank too; so does each rule of another id that stood before a delete
  pub kept : (t : List ℕ) → Accepts (table_rows w u t) → (e : ℕ) (rule plan after : List ℕ) (count count' spot spot' : ℕ)
      → InsertLeft w u e t rule 0 plan after count count' spot spot' → (v : List ℕ) → CarriedOut w e t after rule count' v
      → (x : List ℕ) → Stands w t x
      → ((s : ℕ) → s < slots w t → Replaceable w u (slot_words w t s) (word (record_of w (ranked w (lent_rule w e rule))))
      → ((i : ℕ) → i < s → Replaceable w u (slot_words w t i) (word (record_of w (ranked w (lent_rule w e rule)))) → ⊥) → ident w (word x) ≡ ident w (slot_words w t s) → ⊥)
      → Stands w v x
  pub left : (t : List ℕ) → Accepts (table_rows w u t) → (id : ℕ) (plan after : List ℕ) (count count' spot spot' : ℕ)
      → DeleteLeft w u t id 0 plan after count count' spot spot' → (e : ℕ) (rule : List ℕ) → length rule ≡ record_words w
      → (v : List ℕ) → CarriedOut w e t after rule count' v → (x : List ℕ) → Stands w t x → (ident w (word x) ≡ id → ⊥) → Stands w v x
  -- a slot's record that is lent again as a rule holds its rank: 65,536 is 5, whatever the edition, and nothing is changed
  pub again : (t : List ℕ) → Accepts (table_rows w u t) → (i : ℕ) → i < slots w t → rank w (slot_words w t i) ≡ 65536
      → (e result : ℕ) (plan after : List ℕ) (count count' spot spot' : ℕ) → InsertLeft w u e t (entry_at w t i) result plan after count count' spot spot'
      → (result ≡ 5) × (spot' ≡ 0) × (after ≡ plan) × (count' ≡ count)
