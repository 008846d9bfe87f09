-- End theorems on one write: every other slot holds what it held, and a table that passes check 2 passes it again.
use Rattle.std.specs.Prelude.{◌≡◌, List, ℕ, ◌<◌, length}
use Rattle.std.proofs.Common.{sym, ◌∙◌, subst, arith}
use Rattle.std.proofs.Math.Logic.◌⊎◌.{inl, inr}
use Rattle.std.proofs.Math.Decide.{ℕ_discrete}
use Rattle.std.proofs.lemmas.List.{length-replicate}
use Rattle.layout.specs.Write.{Write, copy, put, clear}
use Rattle.plan_words.specs.PlanWords.{SlotsBelow}
use Rattle.records.specs.Record.{word, record_words, slot_words, record_of, put_slot}
use Rattle.records.specs.Order.{slots}
use Rattle.records.specs.Entries.{vacant, entry_at, SameRecord}
use Rattle.records.proofs.EntriesLaws.{empty_cong, sound_same, listed_same}
use Rattle.records.proofs.RulesLaws.{zero_word, length_listed, record_length, record_sound}
use Rattle.records.proofs.PutSlotLaws.{put_slots, put_here, put_other}
use Rattle.records.specs.Writes.{apply_write}
use Rattle.records.specs.Checks.{EmptyOrSound, check_records}
use Rattle.records.proofs.Laws.{records_law, empty_law}
use Rattle.records.specs.Editions.{Given, ranked}
use Rattle.records.proofs.EditionsLaws.{given_law, rank_sound}
use Rattle.records.specs.declared.Rule.{Rule}
use Rattle.records.specs.Verdict.{Pass}
use Rattle.carrying.specs.Carrying.{written_slot, put_checks}
use Rattle.list_updates.specs.Updates.{BeforeWrite}

-- a record's words that are put into a slot
module _ (w : ℕ) (t : List ℕ) (to : ℕ) (x : List ℕ) (inside : to < slots w t) (whole : length x ≡ record_words w) where
  -- the table before the write is the one after it but for that slot
  put_before : BeforeWrite w (put_slot w t to x) to t
  put_before =
      let size = put_slots w t to x inside whole in
      (sym size, λ k h other j l. sym (put_other w t to x inside whole k other j l))

  -- it passes check 2 where the record is empty or sound
  put_records : check_records w t ≡ Pass → EmptyOrSound w (word x) → check_records w (put_slot w t to x) ≡ Pass
  put_records checks good = (records_law w (put_slot w t to x)).1 (λ i h. at i h (ℕ_discrete i to))
    where
      same : (a b : ℕ → ℕ) → SameRecord w a b → EmptyOrSound w b → EmptyOrSound w a
      same a b s (inl e) = inl (empty_cong w s ∙ e)
      same a b s (inr e) = inr (sound_same w a b s ∙ e)

      at : (i : ℕ) → i < slots w (put_slot w t to x) → Dec (i ≡ to) → EmptyOrSound w (slot_words w (put_slot w t to x) i)
      at i h (yes e) = subst (λ (k : ℕ). EmptyOrSound w (slot_words w (put_slot w t to x) k)) (sym e) (same _ _ (put_here w t to x inside whole) good)
      at i h (no e) =
          same _ _ (put_other w t to x inside whole i e) ((records_law w t).0 checks i (let size = put_slots w t to x inside whole in omega arith))

module _ (w : ℕ) (t : List ℕ) where
  pub written_below : (x : Write) → SlotsBelow (slots w t) x → written_slot x < slots w t
  written_below (copy from to) h = h.1
  written_below (put to) h = h
  written_below (clear to) h = h

  -- any write, on any table
  pub write_before : (rule : Rule) (x : Write) → SlotsBelow (slots w t) x → BeforeWrite w (apply_write w t rule x) (written_slot x) t
  write_before rule (copy from to) h = put_before w t to (entry_at w t from) h.1 (length_listed (record_words w) (slot_words w t from))
  write_before rule (put to) h = put_before w t to (record_of w rule) h (record_length w rule)
  write_before rule (clear to) h = put_before w t to (vacant w) h (length-replicate (record_words w) 0)

  -- a rule that is put in passes 5 and 18
  pub write_records : (given : Given) (x : Write) → given.rule.action < 4294967296 → check_records w t ≡ Pass → SlotsBelow (slots w t) x → put_checks w given x ≡ Pass
      → check_records w (apply_write w t (ranked w given) x) ≡ Pass
  unfolding ranked
  write_records given (copy from to) small checks h pass =
      put_records w t to (entry_at w t from) h.1 (length_listed (record_words w) (slot_words w t from)) checks (copied ((records_law w t).0 checks from h.0))
    where
      copied : EmptyOrSound w (slot_words w t from) → EmptyOrSound w (word (entry_at w t from))
      copied (inl e) = inl (empty_cong w (listed_same w (slot_words w t from)) ∙ e)
      copied (inr e) = inr (sound_same w _ _ (listed_same w (slot_words w t from)) ∙ e)
  write_records given (put to) small checks h pass =
      put_records w t to (record_of w (ranked w given)) h (record_length w (ranked w given)) checks
      (inr (record_sound w (ranked w given) small ∙ rank_sound w given ((given_law w given).0 pass).0))
  write_records given (clear to) small checks h pass =
      put_records w t to (vacant w) h (length-replicate (record_words w) 0) checks (inl ((empty_law w (word (vacant w))).1 (λ j l. zero_word (record_words w) j)))
