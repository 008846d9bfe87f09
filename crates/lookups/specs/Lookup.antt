-- Lookup: what a key is answered; and a slot's record as a part of the lent table.
-- The contracts of lookup and slot_record are equations with these definitions, at the width that the call names.
use Rattle.std.specs.Prelude.{◌≡◌, Bool, true, false, cond, ◌&&◌, List, [], ◌∷◌, ℕ, ◌*◌, ◌<◌, ltb, length, take, drop, Option, Some, None, Result, Ok}
use Rattle.ternary.specs.Pattern.{Words}
use Rattle.records.specs.Record.{word, record_words, slot_words, slot_matches, ident, action, occupied}
use Rattle.records.specs.Order.{slots}
use Rattle.records.specs.Checks.{Told, answer_told, unless, passes, slot_checks, first_match}
use Rattle.records.specs.Widths.{check_width, check_key}
use Rattle.records.specs.declared.Cause.{Cause}
use Rattle.records.specs.declared.Refusal.{Refusal}
use Rattle.records.specs.Verdict.{Pass, Fail}
use Rattle.lookups.specs.declared.Hit.{Hit}

-- document 01's number and values for each case of the answer
abbrev pub lookup_values : Option Hit → List ℕ
lookup_values (Some hit) = hit.slot ∷ hit.id ∷ hit.action ∷ []
lookup_values None = []

abbrev pub lookup_told : Result (Option Hit) Refusal → Told
lookup_told answer = answer_told lookup_values answer

-- slot, id and action of the rule in a slot
unfoldable pub hit_at : ℕ → List ℕ → ℕ → Hit
hit_at w t i = record { slot = i; id = ident w (slot_words w t i); action = action w (slot_words w t i) }

-- the match in a slot; a miss where there is no such slot
unfoldable pub match_told : ℕ → List ℕ → ℕ → Told
match_told w t i = cond (ltb i (slots w t)) (lookup_told (Ok (Some (hit_at w t i)))) (lookup_told (Ok None))

-- document 01: lookup makes checks 1 and 2; the lowest-numbered matching slot wins
unfoldable pub lookup_answer : ℕ → List ℕ → Words → Told
lookup_answer w t key = unless (slot_checks w t) (match_told w t (first_match w t key))

-- document 02: the call, on a key as it is lent; another width or another number of words is 1
unfoldable pub lookup_call : ℕ → List ℕ → List ℕ → Told
lookup_call w t key = unless (check_key w (length key)) (lookup_answer w t (word key))

-- document 01: a key's reply is id and action, or a miss; a hit's values without the slot
abbrev pub reply : ℕ → List ℕ → Words → List ℕ
reply w t key = drop 1 (match_told w t (first_match w t key)).values

-- a slot's record is shown if checks 1 and 2 pass and the slot is present and occupied
unfoldable pub shown : ℕ → List ℕ → ℕ → Bool
shown w t i = passes (slot_checks w t) && (ltb i (slots w t) && occupied w (slot_words w t i))

-- document 02: what the call shows, none at another width
unfoldable pub shown_call : ℕ → List ℕ → ℕ → Bool
shown_call w t i = passes (check_width w) && shown w t i

-- the first word and the number of words of that part of the table; empty, at the table's start, where it is not shown
unfoldable pub part_start_call : ℕ → List ℕ → ℕ → ℕ
part_start_call w t i = cond (shown_call w t i) (i * record_words w) 0

unfoldable pub part_length_call : ℕ → List ℕ → ℕ → ℕ
part_length_call w t i = cond (shown_call w t i) (record_words w) 0

abbrev pub record_part_call : ℕ → List ℕ → ℕ → List ℕ
record_part_call w t i = take (part_length_call w t i) (drop (part_start_call w t i) t)

-- the cases of a lookup, in words
module _ (w : ℕ) (t : List ℕ) (key : Words) where
  -- slot i is the lowest that matches
  abbrev pub FirstAt : ℕ → Type 0
  FirstAt i = (i < slots w t) × (slot_matches w key (slot_words w t i) ≡ true) × ((j : ℕ) → j < i → slot_matches w key (slot_words w t j) ≡ false)

  abbrev pub NoMatch : Type 0
  NoMatch = (j : ℕ) → j < slots w t → slot_matches w key (slot_words w t j) ≡ false

  -- the cases
  pub data Case : Type 0 where
    refused_by : (cause : Cause) (spot : ℕ) → slot_checks w t ≡ Fail cause spot → Case
    hit : (i : ℕ) → slot_checks w t ≡ Pass → FirstAt i → Case
    miss : slot_checks w t ≡ Pass → NoMatch → Case
