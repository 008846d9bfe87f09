-- Document 01's table "Why a call declines", call by call: the rows of each call's checks, in the order in which they are made.
-- A condition is worded by slots, bits and numbers, not by the tests that the code makes; an image by its fields as they are read and the table that it
-- means, a plan by its words. new is the new rule's record.
use Rattle.std.specs.Prelude.{◌≡◌, Bool, true, ◌⊎◌, List, [], ◌∷◌, ◌++◌, ℕ, zero, suc, ◌+◌, ◌*◌, ◌≤◌, ◌<◌, length, get_or}
use Rattle.ternary.specs.Pattern.{Words}
use Rattle.layout.specs.Write.{Write, put}
use Rattle.plan_words.specs.PlanWords.{write_of}
use Rattle.records.specs.Record.{word, record_words, slot_words, occupied, ident, rank, record_of}
use Rattle.records.specs.Sound.{SoundRecord, SoundRule}
use Rattle.records.specs.Order.{slots, Overlapping, EqualRules, Replaceable}
use Rattle.records.specs.Checks.{Shaped}
use Rattle.records.specs.Entries.{entries}
use Rattle.records.specs.Writes.{EntryFits}
use Rattle.records.specs.Editions.{Given, lent_rule, ranked}
use Rattle.records.specs.declared.Rule.{Rule}
use Rattle.records.specs.declared.Cause.TheVariants.{Shape, Record, Twice, Order, Rule as RuleCause, Known, Unknown, Tie, Full, Crossed, Short}
use Rattle.records.specs.declared.Cause.TheVariants.{Write as WriteCause, Image, Edition as EditionCause}
use Rattle.insert_plans.specs.Inserts.{planned_words}
use Rattle.image.specs.Format.{image_bytes, body_place, entry_place, rule_count, slots_in, rules_in, id_at, entry_slot, offset_at, record_at}
use Rattle.image.specs.Checks.{lowest_slot, meant}
use Rattle.refusals.specs.Rows.{Row, row_at, slot_row}

-- two rules of one id
abbrev pub OneId : ℕ → Words → Words → Type 0
OneId w a b = (occupied w a ≡ true) × (occupied w b ≡ true) × (ident w a ≡ ident w b)

-- the higher of an overlapping pair precedes the other, which depends on it
abbrev pub Precedes : ℕ → Bool → Words → Words → Type 0
Precedes w u a b = Overlapping w u a b × (rank w b < rank w a)

-- the first of an overlapping pair has no higher rank; the two have the same
abbrev pub NotHigher : ℕ → Bool → Words → Words → Type 0
NotHigher w u a b = Overlapping w u a b × (rank w a ≤ rank w b)

abbrev pub Ties : ℕ → Bool → Words → Words → Type 0
Ties w u a b = Overlapping w u a b × (rank w a ≡ rank w b)

module _ (w : ℕ) (t : List ℕ) where
  -- 1: the table's words are not a record's words × (1 to 1,024)
  abbrev pub shape_row : Row
  shape_row = row_at Shape (Shaped w t → ⊥) 0

  -- 2: a slot neither empty nor a sound rule
  abbrev pub record_row : Row
  record_row = slot_row Record (slots w t) (λ i. (occupied w (slot_words w t i) ≡ true) × (SoundRecord w (slot_words w t i) → ⊥))

  -- 3: an id also in an earlier slot
  abbrev pub twice_row : Row
  twice_row = slot_row Twice (slots w t) (λ j. (i : ℕ) × (i < j) × OneId w (slot_words w t i) (slot_words w t j))

  abbrev pub slot_rows : List Row
  slot_rows = shape_row ∷ record_row ∷ []

  -- 6: insert: id present
  abbrev pub known_row : Words → Row
  known_row new = slot_row Known (slots w t) (λ i. OneId w (slot_words w t i) new)

  -- 7: delete: id absent
  abbrev pub unknown_row : ℕ → Row
  unknown_row id = row_at Unknown ((i : ℕ) → i < slots w t → occupied w (slot_words w t i) ≡ true → ident w (slot_words w t i) ≡ id → ⊥) 0

module _ (w : ℕ) (u : Bool) (t : List ℕ) where
  -- 4: an earlier overlapping rule has no higher rank
  abbrev pub order_row : Row
  order_row = slot_row Order (slots w t) (λ j. (i : ℕ) × (i < j) × NotHigher w u (slot_words w t i) (slot_words w t j))

  abbrev pub table_rows : List Row
  table_rows = slot_rows w t ++ (twice_row w t ∷ order_row ∷ [])

  -- 8: overlap at equal rank; document 02, 2026-03: but not with a rule of the same value, mask and rank, which the new one replaces
  abbrev pub tie_row : Words → Row
  tie_row new = slot_row Tie (slots w t) (λ i. Ties w u (slot_words w t i) new × (Replaceable w u (slot_words w t i) new → ⊥))

  -- no slot holds such a rule: none is replaced
  abbrev pub ReplacesNone : Words → Type 0
  ReplacesNone new = (i : ℕ) → i < slots w t → Replaceable w u (slot_words w t i) new → ⊥

  -- 9: insert: no slot empty, and no rule is replaced
  abbrev pub full_row : Words → Row
  full_row new = row_at Full (((i : ℕ) → i < slots w t → occupied w (slot_words w t i) ≡ true) × ReplacesNone new) 0

  -- slot a is A, the highest slot holding a rule that precedes the new one
  abbrev pub IsA : Words → ℕ → Type 0
  IsA new a =
      (a < slots w t) × Precedes w u (slot_words w t a) new × ((i : ℕ) → a < i → i < slots w t → Precedes w u (slot_words w t i) new → ⊥)

  -- 10: A > B: a rule that depends on the new one stands before one that precedes it
  abbrev pub crossed_row : Words → Row
  crossed_row new = record {
    cause = Crossed;
    condition = (b : ℕ) × (a : ℕ) × (b < a) × (a < slots w t) × Precedes w u new (slot_words w t b) × Precedes w u (slot_words w t a) new;
    spot = IsA new;
  }

-- 5: rule unsound, as it is given: its priority is at most 65,535; or id 0 to delete
abbrev pub rule_row : ℕ → Rule → Row
rule_row w rule = row_at RuleCause (SoundRule w rule → ⊥) 0

abbrev pub id_row : ℕ → Row
id_row id = row_at RuleCause (id ≡ 0) 0

-- 18: the edition is neither 1.0 nor 1.3
abbrev pub OtherEdition : ℕ → Type 0
OtherEdition e = (e ≡ 10 → ⊥) × (e ≡ 13 → ⊥)

abbrev pub edition_row : ℕ → Row
edition_row e = row_at EditionCause (OtherEdition e) 0

-- 11: plan or image buffer too short: the words or bytes needed, and those that there are
abbrev pub short_row : ℕ → ℕ → Row
short_row needed room = row_at Short (room < needed) needed

-- lookup makes 1 and 2
abbrev pub lookup_rows : ℕ → List ℕ → List Row
lookup_rows w t = slot_rows w t

-- planning makes checks 1 to 11, as far as each applies, and 18 after 5; those of a table and a rule, or an id, alone. From 6 on the rule has its rank
abbrev pub new_rule_rows : ℕ → Bool → List ℕ → Given → List Row
new_rule_rows w u t given =
    let new = word (record_of w (ranked w given)) in
    table_rows w u t
    ++ (rule_row w given.rule ∷ edition_row given.edition ∷ known_row w t new ∷ tie_row w u t new ∷ full_row w u t new ∷ crossed_row w u t new ∷ [])

abbrev pub old_rule_rows : ℕ → Bool → List ℕ → ℕ → List Row
old_rule_rows w u t id = table_rows w u t ++ (id_row id ∷ unknown_row w t id ∷ [])

-- and with a buffer of so many words
abbrev pub insert_rows : ℕ → Bool → List ℕ → Given → ℕ → List Row
insert_rows w u t given room = new_rule_rows w u t given ++ (short_row (length (planned_words w u t (ranked w given))) room ∷ [])

abbrev pub delete_rows : ℕ → Bool → List ℕ → ℕ → ℕ → List Row
delete_rows w u t id room = old_rule_rows w u t id ++ (short_row 1 room ∷ [])

-- save makes 1 to 4, then 11
abbrev pub save_rows : ℕ → Bool → List ℕ → ℕ → List Row
save_rows w u t room = table_rows w u t ++ (short_row (image_bytes w (rule_count w t)) room ∷ [])

-- document 02, 2026-03: a put-in over a rule of the same value, mask and rank as the one put in, which has its rank
abbrev pub OverEqual : ℕ → List ℕ → Rule → Write → Type 0
OverEqual w t rule next = (to : ℕ) × (next ≡ put to) × (to < slots w t) × EqualRules w (slot_words w t to) (word (record_of w rule))

-- carrying out: 1, 2; then 12 if done > in all or in all > the plan's words; then, where the next write is to be made, 5 for an unsound rule and 18 for
-- another edition where a rule is put in, and 12 unless it fits or is such a put-in
abbrev pub step_rows : ℕ → List ℕ → List ℕ → Given → ℕ → ℕ → List Row
step_rows w t plan given done total =
    let next = write_of (get_or plan done 0) in
    slot_rows w t
    ++ (row_at WriteCause ((total < done) ⊎ (length plan < total)) done ∷ [])
    ++ (row_at RuleCause ((done < total) × ((to : ℕ) × (next ≡ put to)) × (SoundRule w given.rule → ⊥)) 0
    ∷ row_at EditionCause ((done < total) × ((to : ℕ) × (next ≡ put to)) × OtherEdition given.edition) 0
    ∷ row_at WriteCause ((done < total) × (EntryFits w (entries w t) next → ⊥) × (OverEqual w t (ranked w given) next → ⊥)) done
    ∷ [])

-- 14: a field of the image is wrong, at its offset
abbrev pub field_row : Type 0 → ℕ → Row
field_row condition offset = row_at Image condition offset

-- rows 0 to n − 1 of a kind, in turn
abbrev pub rows_in_turn : (ℕ → List Row) → ℕ → List Row
rows_in_turn rows zero = []
rows_in_turn rows (suc n) = rows_in_turn rows n ++ rows n

-- the fields of entry k of the contents, for a table of n slots and an image of e rules: id 0; slot not below slots, or not above the entry before; offset
-- not exact
abbrev pub entry_rows : ℕ → List ℕ → ℕ → ℕ → ℕ → List Row
entry_rows w b n e k =
    field_row (id_at b k ≡ 0) (entry_place k)
    ∷ field_row ((n ≤ entry_slot b k) ⊎ (entry_slot b k < lowest_slot b k)) (entry_place k + 4)
    ∷ field_row (offset_at b k ≡ body_place w e k → ⊥) (entry_place k + 6)
    ∷ []

-- body k: an unsound value or rank
abbrev pub body_rows : ℕ → List ℕ → ℕ → ℕ → List Row
body_rows w b e k = field_row (SoundRecord w (word (record_at w b e k)) → ⊥) (body_place w e k) ∷ []

-- load: 1; the image's header, its entries in turn, its bodies in turn; then 3 and 4 over the table meant
abbrev pub load_rows : ℕ → Bool → List ℕ → List ℕ → List Row
load_rows w u b t =
    (shape_row w t ∷ [])
    ++ (field_row ((length b < 4) ⊎ (slots_in b ≡ slots w t → ⊥)) 0
    ∷ field_row ((slots w t < rules_in b) ⊎ (length b ≡ image_bytes w (rules_in b) → ⊥)) 2
    ∷ [])
    ++ rows_in_turn (entry_rows w b (slots w t) (rules_in b)) (rules_in b)
    ++ rows_in_turn (body_rows w b (rules_in b)) (rules_in b)
    ++ (twice_row w (meant w b (length t)) ∷ order_row w u (meant w b (length t)) ∷ [])

-- Document 02: 1 also covers a width that there is not, and a key or a rule of another number of words than the width asks for.
abbrev pub OtherWidth : ℕ → Type 0
OtherWidth w = (w ≡ 2 → ⊥) × (w ≡ 5 → ⊥)

abbrev pub OtherKey : ℕ → List ℕ → Type 0
OtherKey w key = OtherWidth w ⊎ (length key ≡ w → ⊥)

abbrev pub OtherRule : ℕ → List ℕ → Type 0
OtherRule w rule = OtherWidth w ⊎ (length rule ≡ record_words w → ⊥)

-- and by 2026-10 a neighbour list whose numbers are not two for each slot
abbrev pub OtherList : ℕ → List ℕ → ℕ → Type 0
OtherList w t numbers = numbers ≡ 2 * slots w t → ⊥

-- the rows of a call, whose first row, 1, holds on this condition too
abbrev pub rows_or : Type 0 → List Row → List Row
rows_or Other [] = []
rows_or Other (row ∷ rows) = record { cause = row.cause; condition = Other ⊎ row.condition; spot = row.spot } ∷ rows

-- each exported call, on what is lent to it: of a rule its record, with its edition e
abbrev pub lookup_call_rows : ℕ → List ℕ → List ℕ → List Row
lookup_call_rows w t key = rows_or (OtherKey w key) (lookup_rows w t)

abbrev pub insert_call_rows : ℕ → Bool → ℕ → List ℕ → List ℕ → ℕ → List Row
insert_call_rows w u e t rule room = rows_or (OtherRule w rule) (insert_rows w u t (lent_rule w e rule) room)

abbrev pub delete_call_rows : ℕ → Bool → List ℕ → ℕ → ℕ → List Row
delete_call_rows w u t id room = rows_or (OtherWidth w) (delete_rows w u t id room)

abbrev pub save_call_rows : ℕ → Bool → List ℕ → ℕ → List Row
save_call_rows w u t room = rows_or (OtherWidth w) (save_rows w u t room)

abbrev pub load_call_rows : ℕ → Bool → List ℕ → List ℕ → List Row
load_call_rows w u b t = rows_or (OtherWidth w) (load_rows w u b t)

abbrev pub step_call_rows : ℕ → ℕ → List ℕ → List ℕ → List ℕ → ℕ → ℕ → List Row
step_call_rows w e t plan rule done total = rows_or (OtherRule w rule) (step_rows w t plan (lent_rule w e rule) done total)

-- with a list of so many numbers
abbrev pub listed_insert_call_rows : ℕ → Bool → ℕ → List ℕ → List ℕ → ℕ → ℕ → List Row
listed_insert_call_rows w u e t rule numbers room = rows_or (OtherList w t numbers) (insert_call_rows w u e t rule room)

abbrev pub listed_step_call_rows : ℕ → ℕ → List ℕ → List ℕ → List ℕ → ℕ → ℕ → ℕ → List Row
listed_step_call_rows w e t plan rule numbers done total = rows_or (OtherList w t numbers) (step_call_rows w e t plan rule done total)
