-- Planning a delete: one emptying write. Checks 1 to 4, then 5 for id 0, 7 and 11 of document 01.
-- A plan buffer is left as it was where the call declines, and past the count.
use Rattle.std.specs.Prelude.{◌≡◌, Bool, true, cond, ◌&&◌, List, [], ◌∷◌, ℕ, ◌<◌, eqb, ltb}
use Rattle.search.specs.Search.{least}
use Rattle.layout.specs.Write.{clear}
use Rattle.plan_words.specs.PlanWords.{write_word}
use Rattle.records.specs.Record.{slot_words, ident, occupied, put_slot}
use Rattle.records.specs.Order.{slots}
use Rattle.records.specs.Checks.{Told, unless, or_else, table_checks}
use Rattle.records.specs.Widths.{check_width, leaves}
use Rattle.records.specs.Entries.{vacant}
use Rattle.records.specs.Writes.{apply_words, fits_word}
use Rattle.records.specs.declared.Rule.{Rule}
use Rattle.records.specs.declared.Cause.TheVariants.{Rule as RuleCause, Unknown}
use Rattle.records.specs.Verdict.{Check}
use Rattle.records.specs.Verdict.{Pass, Fail}
use Rattle.buffers.specs.Buffers.{buffer_answer, buffer_after}

-- slot i holds the rule with this id
unfoldable pub has_id : ℕ → List ℕ → ℕ → ℕ → Bool
has_id w t id i = eqb (ident w (slot_words w t i)) id && occupied w (slot_words w t i)

-- the lowest slot that holds it; the number of slots where none does
unfoldable pub slot_of_id : ℕ → List ℕ → ℕ → ℕ
slot_of_id w t id = least (has_id w t id) (slots w t) 0

-- 5 for id 0 to delete, 7 for an id that is absent
unfoldable pub check_id : ℕ → Check
check_id id = cond (eqb id 0) (Fail RuleCause 0) Pass

unfoldable pub check_unknown : ℕ → List ℕ → ℕ → Check
check_unknown w t id = cond (ltb (slot_of_id w t id) (slots w t)) Pass (Fail Unknown 0)

unfoldable pub delete_checks : ℕ → Bool → List ℕ → ℕ → Check
delete_checks w u t id = or_else (table_checks w u t) (or_else (check_id id) (check_unknown w t id))

-- document 01: a delete is one emptying write
abbrev pub delete_words : ℕ → List ℕ → ℕ → List ℕ
delete_words w t id = write_word (clear (slot_of_id w t id)) ∷ []

-- the answer with a buffer of so many words, and the buffer afterwards
abbrev pub delete_answer : ℕ → Bool → List ℕ → ℕ → ℕ → Told
delete_answer w u t id room = buffer_answer (delete_checks w u t id) 1 room

abbrev pub delete_plan : ℕ → Bool → List ℕ → ℕ → List ℕ → List ℕ
delete_plan w u t id plan = buffer_after (delete_checks w u t id) (delete_words w t id) plan

-- document 02: the call; another width is 1
abbrev pub delete_call : ℕ → Bool → List ℕ → ℕ → ℕ → Told
delete_call w u t id room = unless (check_width w) (delete_answer w u t id room)

abbrev pub delete_call_plan : ℕ → Bool → List ℕ → ℕ → List ℕ → List ℕ
delete_call_plan w u t id plan = leaves (check_width w) (delete_plan w u t id plan) plan

-- What a delete that passes its checks plans: the table is sound, the slot holds the rule, its one word empties that slot, and the write fits.
pub record DeletePlanned (w : ℕ) (u : Bool) (t : List ℕ) (id : ℕ) : Type 0 where
  pub table : table_checks w u t ≡ Pass
  pub exists : slot_of_id w t id < slots w t
  pub holds : has_id w t id (slot_of_id w t id) ≡ true
  pub fits : fits_word w t (write_word (clear (slot_of_id w t id))) ≡ true
  pub after : (rule : Rule) → apply_words w t rule (delete_words w t id) ≡ put_slot w t (slot_of_id w t id) (vacant w)
