-- Checks 1 to 4 of document 01, each with the lowest slot that fails it, and the first match of a key.
-- A check is a row of the refusal table: it passes, or fails with its cause and spot.
use Rattle.std.specs.Prelude.{◌≡◌, Bool, true, false, not, cond, ◌&&◌, ◌⊎◌, List, [], ◌∷◌, ℕ, ◌%◌, ◌*◌, ◌≤◌, eqb, ltb, leb, length, Result, Ok, Err}
use Rattle.search.specs.Search.{any, least}
use Rattle.ternary.specs.Pattern.{Words}
use Rattle.records.specs.Record.{record_words, slot_words, empty, occupied, sound, pattern_matches, slot_matches}
use Rattle.records.specs.Order.{slots, same_id, misordered}
use Rattle.records.specs.declared.Cause.{Cause}
use Rattle.records.specs.declared.Cause.TheVariants.{Shape, Record, Twice, Order, Rule, Known, Unknown, Tie, Full, Crossed, Short, Write, Line}
use Rattle.records.specs.declared.Cause.TheVariants.{Image, Uncrossed, Plan, Damage, Edition, Open, Session, Absent, Room}
use Rattle.records.specs.declared.Refusal.{Refusal}
use Rattle.records.specs.Verdict.{Check, Pass, Fail}

-- the number of each cause: document 01's, and document 02's from 15 on
abbrev pub cause_number : Cause → ℕ
cause_number Shape = 1
cause_number Record = 2
cause_number Twice = 3
cause_number Order = 4
cause_number Rule = 5
cause_number Known = 6
cause_number Unknown = 7
cause_number Tie = 8
cause_number Full = 9
cause_number Crossed = 10
cause_number Short = 11
cause_number Write = 12
cause_number Line = 13
cause_number Image = 14
cause_number Uncrossed = 15
cause_number Plan = 16
cause_number Damage = 17
cause_number Edition = 18
cause_number Open = 19
cause_number Session = 20
cause_number Absent = 21
cause_number Room = 22

-- an answer as document 01 has it: a number, 0 for a success, and values: a success's data, or a refusal's spot
pub record Told : Type 0 where
  pub number : ℕ
  pub values : List ℕ

abbrev pub success : List ℕ → Told
success values = record { number = 0; values = values }

abbrev pub refusal : Cause → ℕ → Told
refusal cause spot = record { number = cause_number cause; values = spot ∷ [] }

-- what a call tells that succeeds with data or declines
abbrev pub answer_told : {T : Type 0} → (T → List ℕ) → Result T Refusal → Told
answer_told values (Ok done) = success (values done)
answer_told values (Err refused) = refusal refused.cause refused.spot

-- a refusal where a check fails, else the answer
abbrev pub unless : Check → Told → Told
unless Pass answer = answer
unless (Fail cause spot) answer = refusal cause spot

abbrev pub passes : Check → Bool
passes Pass = true
passes (Fail cause spot) = false

-- the first check that fails decides
abbrev pub or_else : Check → Check → Check
or_else Pass next = next
or_else (Fail cause spot) next = Fail cause spot

-- fails at the lowest slot, of n, where the test holds
unfoldable pub lowest : Cause → (ℕ → Bool) → ℕ → Check
lowest cause p n = cond (ltb (least p n 0) n) (Fail cause (least p n 0)) Pass

-- 1: the table's words are not a record's words × (1 to 1,024)
unfoldable pub shaped : ℕ → List ℕ → Bool
shaped w t = eqb (length t % record_words w) 0 && leb 1 (slots w t) && leb (slots w t) 1024

unfoldable pub check_shape : ℕ → List ℕ → Check
check_shape w t = cond (shaped w t) Pass (Fail Shape 0)

-- 2: a slot neither empty nor a sound rule
unfoldable pub unsound_at : ℕ → List ℕ → ℕ → Bool
unsound_at w t i = not (sound w (slot_words w t i)) && occupied w (slot_words w t i)

-- what it asks of each slot's record
abbrev pub EmptyOrSound : ℕ → Words → Type 0
EmptyOrSound w x = (empty w x ≡ true) ⊎ (sound w x ≡ true)

unfoldable pub check_records : ℕ → List ℕ → Check
check_records w t = lowest Record (unsound_at w t) (slots w t)

-- 3: an id also in an earlier slot
unfoldable pub twice_at : ℕ → List ℕ → ℕ → Bool
twice_at w t j = any (λ (i : ℕ). same_id w (slot_words w t i) (slot_words w t j)) j

unfoldable pub check_twice : ℕ → List ℕ → Check
check_twice w t = lowest Twice (twice_at w t) (slots w t)

-- 4: an earlier overlapping rule has no higher rank
unfoldable pub disorder_at : ℕ → Bool → List ℕ → ℕ → Bool
disorder_at w u t j = any (λ (i : ℕ). misordered w u (slot_words w t i) (slot_words w t j)) j

unfoldable pub check_order : ℕ → Bool → List ℕ → Check
check_order w u t = lowest Order (disorder_at w u t) (slots w t)

-- checks 1 and 2, which lookup makes; checks 1 to 4, which a sound table passes
unfoldable pub slot_checks : ℕ → List ℕ → Check
slot_checks w t = or_else (check_shape w t) (check_records w t)

unfoldable pub table_checks : ℕ → Bool → List ℕ → Check
table_checks w u t = or_else (slot_checks w t) (or_else (check_twice w t) (check_order w u t))

-- slot i matches a key
abbrev pub matches_at : ℕ → List ℕ → Words → ℕ → Bool
matches_at w t key i = slot_matches w key (slot_words w t i)

-- the lowest-numbered slot that matches a key; the number of slots where none does
unfoldable pub first_match : ℕ → List ℕ → Words → ℕ
first_match w t key = least (matches_at w t key) (slots w t) 0

-- what the comparison finds of slot i, by its pattern and its word of id and action alone: of an empty slot or a sound rule, whether it matches
unfoldable pub compared_at : ℕ → List ℕ → Words → ℕ → Bool
compared_at w t key i = pattern_matches w key (slot_words w t i) && not (eqb (slot_words w t i (2 * w)) 0)

-- check 1: a record's words for each of 1 to 1,024 slots
abbrev pub Shaped : ℕ → List ℕ → Type 0
Shaped w t = (n : ℕ) × (1 ≤ n) × (n ≤ 1024) × (length t ≡ n * record_words w)
