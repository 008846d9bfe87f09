-- An insert on a table's words: ties, a new id, the choice of its layout and the words of the plan.
use Rattle.std.specs.Prelude.{◌≡◌, Bool, false, List, map, ℕ, ◌<◌}
use Rattle.layout.specs.Plan.{Choice, insert_choice, writes}
use Rattle.plan_words.specs.PlanWords.{write_word}
use Rattle.records.specs.Record.{word, slot_words, record_of}
use Rattle.records.specs.Order.{slots, tied, same_id}
use Rattle.records.specs.Entries.{vacant, entries, entry_occupied, entry_misordered}
use Rattle.records.specs.declared.Rule.{Rule}

-- no slot ties with the rule, and none has its id: checks 8 and 6
abbrev pub Untied : ℕ → Bool → List ℕ → Rule → Type 0
Untied w u t r = (i : ℕ) → i < slots w t → tied w u (slot_words w t i) (word (record_of w r)) ≡ false

abbrev pub IdNew : ℕ → List ℕ → Rule → Type 0
IdNew w t r = (i : ℕ) → i < slots w t → same_id w (slot_words w t i) (word (record_of w r)) ≡ false

abbrev pub insert_choice_of : ℕ → Bool → List ℕ → Rule → Choice
insert_choice_of w u t r = insert_choice (vacant w) (entry_occupied w) (entry_misordered w u) (entries w t) (record_of w r)

-- the plan's words
abbrev pub plan_words : Choice → List ℕ
plan_words choice = map write_word (writes choice)
