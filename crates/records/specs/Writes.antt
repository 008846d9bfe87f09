-- Document 01's writes on a table's words: what each does, and when it fits.
-- A plan word's write is that of layouts (`plan_words`), so that a plan found there is carried out on words here.
use Rattle.std.specs.Prelude.{Bool, not, ◌&&◌, ◌||◌, ℕ, eqb, ltb}
use mathlib.Core.List.{List, foldl}
use Rattle.search.specs.Search.{any}
use Rattle.layout.specs.Write.{Write, copy, put, clear, Fits}
use Rattle.plan_words.specs.PlanWords.{write_of}
use Rattle.records.specs.Record.{slot_words, empty, occupied, record_of, put_slot}
use Rattle.records.specs.Order.{slots, same_id}
use Rattle.records.specs.Entries.{vacant, entry_at, entry_occupied, entry_same}
use Rattle.records.specs.declared.Rule.{Rule}

-- the table's words after a write
abbrev pub apply_write : ℕ → List ℕ → Rule → Write → List ℕ
apply_write w t r (copy from to) = put_slot w t to (entry_at w t from)
apply_write w t r (put to) = put_slot w t to (record_of w r)
apply_write w t r (clear to) = put_slot w t to (vacant w)

abbrev pub apply_word : ℕ → List ℕ → Rule → ℕ → List ℕ
apply_word w t r n = apply_write w t r (write_of n)

-- the table's words after a list of them
abbrev pub apply_words : ℕ → List ℕ → Rule → List ℕ → List ℕ
apply_words w t r ns = foldl (λ u n. apply_word w u r n) t ns

-- another slot k holds slot j's id; slot j's id stands in another slot too
unfoldable pub held_at : ℕ → List ℕ → ℕ → ℕ → Bool
held_at w t j k = not (eqb k j) && same_id w (slot_words w t k) (slot_words w t j)

unfoldable pub stands_elsewhere : ℕ → List ℕ → ℕ → Bool
stands_elsewhere w t j = any (held_at w t j) (slots w t)

-- a write to slot j loses no rule: the slot is empty, or its id stands in another slot too
unfoldable pub free_at : ℕ → List ℕ → ℕ → Bool
free_at w t j = empty w (slot_words w t j) || stands_elsewhere w t j

-- document 01: when a write fits, in the comparison class; in carrying out a put-in over an equal rule fits too, by document 02
abbrev pub fits_write : ℕ → List ℕ → Write → Bool
fits_write w t (copy from to) =
    ltb from (slots w t) && (ltb to (slots w t) && (not (eqb from to) && (occupied w (slot_words w t from) && free_at w t to)))
fits_write w t (put to) = ltb to (slots w t) && free_at w t to
fits_write w t (clear to) = ltb to (slots w t) && occupied w (slot_words w t to)

abbrev pub fits_word : ℕ → List ℕ → ℕ → Bool
fits_word w t n = fits_write w t (write_of n)

abbrev pub EntryFits : ℕ → List (List ℕ) → Write → Type 0
EntryFits w l x = Fits (vacant w) (entry_occupied w) (entry_same w) l x
