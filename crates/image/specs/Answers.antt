-- What saving and loading answer, and what they leave in the lent buffers.
-- A refused call leaves its buffer as it was; bytes past a saved image stay.
use Rattle.std.specs.Prelude.{Bool, cond, List, [], ◌∷◌, ℕ, length, Result}
use Rattle.records.specs.Checks.{Told, success, answer_told, unless, passes, table_checks}
use Rattle.records.specs.Widths.{check_width, leaves}
use Rattle.buffers.specs.Buffers.{buffer_answer, buffer_after}
use Rattle.image.specs.Format.{image_bytes, rule_count, image_of}
use Rattle.image.specs.Checks.{meant, load_checks}
use Rattle.records.specs.declared.Refusal.{Refusal}
use Rattle.image.specs.declared.SaveInfo.{SaveInfo}

-- document 01's number and values for each case of a save's answer, and of a load's
abbrev pub save_told : Result SaveInfo Refusal → Told
save_told answer = answer_told (λ info. info.bytes ∷ []) answer

abbrev pub load_told : Result (Unit {0}) Refusal → Told
load_told answer = answer_told (λ done. []) answer

-- save makes checks 1 to 4, then 11 with the bytes needed: a buffer too short is one row for plans and images
abbrev pub save_answer : ℕ → Bool → List ℕ → ℕ → Told
save_answer w u t room = buffer_answer (table_checks w u t) (image_bytes w (rule_count w t)) room

abbrev pub save_buffer : ℕ → Bool → List ℕ → List ℕ → List ℕ
save_buffer w u t image = buffer_after (table_checks w u t) (image_of w t) image

-- load: the table meant, or a refusal that leaves the lent table as it was
unfoldable pub load_answer : ℕ → Bool → List ℕ → List ℕ → Told
load_answer w u b t = unless (load_checks w u b t) (success [])

unfoldable pub load_table : ℕ → Bool → List ℕ → List ℕ → List ℕ
load_table w u b t = cond (passes (load_checks w u b t)) (meant w b (length t)) t

-- document 02: the calls; another width is 1, and leaves the buffer, or the table, as it was
abbrev pub save_call : ℕ → Bool → List ℕ → ℕ → Told
save_call w u t room = unless (check_width w) (save_answer w u t room)

abbrev pub save_call_buffer : ℕ → Bool → List ℕ → List ℕ → List ℕ
save_call_buffer w u t image = leaves (check_width w) (save_buffer w u t image) image

abbrev pub load_call : ℕ → Bool → List ℕ → List ℕ → Told
load_call w u b t = unless (check_width w) (load_answer w u b t)

abbrev pub load_call_table : ℕ → Bool → List ℕ → List ℕ → List ℕ
load_call_table w u b t = leaves (check_width w) (load_table w u b t) t
