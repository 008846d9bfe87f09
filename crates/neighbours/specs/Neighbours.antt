-- A new rule against a table: is its id known, does it replace a rule, does it tie, is there room, its neighbours A and B, and which rule covers it. Checks 6 and 8 to 10 of
-- document 01, and all checks of an insert in their order.
-- The new rule is given by its record's words, new.
use Rattle.std.specs.Prelude.{◌≡◌, Bool, true, false, cond, List, ℕ, suc, ◌-◌, ◌<◌, ltb, Option, Some, None, Result, Ok, Err}
use Prim.{Unit}
use Rattle.search.specs.Search.{any, least, after_last, first_from}
use Rattle.ternary.specs.Pattern.{Words}
use Rattle.records.specs.Record.{slot_words, empty, ident, record_of}
use Rattle.records.specs.Order.{slots, same_id, tied, precedes, obscures, Obscures, replaceable}
use Rattle.records.specs.Checks.{lowest, or_else, table_checks}
use Rattle.records.specs.Editions.{Given, ranked, check_given}
use Rattle.records.specs.declared.Rule.{Rule}
use Rattle.records.specs.declared.Cause.TheVariants.{Known, Tie, Full, Crossed}
use Rattle.records.specs.Verdict.{Check}
use Rattle.records.specs.Verdict.{Pass, Fail}
use Rattle.records.specs.declared.Refusal.{Refusal}

-- 6: the id is present, in the slot named
unfoldable pub check_known : ℕ → List ℕ → Words → Check
check_known w t new = lowest Known (λ (i : ℕ). same_id w (slot_words w t i) new) (slots w t)

-- 8: overlap at equal rank, the lowest such slot
unfoldable pub check_tie : ℕ → Bool → List ℕ → Words → Check
check_tie w u t new = lowest Tie (λ (i : ℕ). tied w u (slot_words w t i) new) (slots w t)

-- 9: no slot is empty
unfoldable pub check_full : ℕ → List ℕ → Check
check_full w t = cond (any (λ (i : ℕ). empty w (slot_words w t i)) (slots w t)) Pass (Fail Full 0)

-- A + 1, where A is the highest slot holding a rule that precedes the new one (−1 if none)
unfoldable pub after_a : ℕ → Bool → List ℕ → Words → ℕ
after_a w u t new = after_last (λ (i : ℕ). precedes w u (slot_words w t i) new) (slots w t)

-- B, the lowest slot holding a rule that depends on the new one (the number of slots if none)
unfoldable pub slot_b : ℕ → Bool → List ℕ → Words → ℕ
slot_b w u t new = least (λ (i : ℕ). precedes w u new (slot_words w t i)) (slots w t) 0

-- 10: A > B, spot A; by A + 1 and B, and of a rule
abbrev pub crossed_by : ℕ → ℕ → Check
crossed_by after dependant = cond (ltb (suc dependant) after) (Fail Crossed (after - 1)) Pass

unfoldable pub check_crossed : ℕ → Bool → List ℕ → Words → Check
check_crossed w u t new = crossed_by (after_a w u t new) (slot_b w u t new)

-- document 02, 2026-03: the slot of the rule that the new one replaces, the lowest with one of the same value, mask and rank (the number of slots if
-- none); whether there is one; and the id of that rule
unfoldable pub replaced_slot : ℕ → Bool → List ℕ → Words → ℕ
replaced_slot w u t new = least (λ (i : ℕ). replaceable w u (slot_words w t i) new) (slots w t) 0

unfoldable pub replaces : ℕ → Bool → List ℕ → Words → Bool
replaces w u t new = ltb (replaced_slot w u t new) (slots w t)

abbrev pub replaced_id : ℕ → Bool → List ℕ → Words → ℕ
replaced_id w u t new = ident w (slot_words w t (replaced_slot w u t new))

-- document 02, 2026-05: the lowest slot of a higher-ranked rule that alone covers the new one, or 65,535 for none
unfoldable pub covering_slot : ℕ → List ℕ → Words → ℕ
covering_slot w t new = first_from (λ (i : ℕ). obscures w (slot_words w t i) new) 0 (slots w t)

-- in words: slot c is the lowest of a higher-ranked rule that alone covers the new one; or there is none
pub record CoveredAt (w : ℕ) (t : List ℕ) (new : Words) (c : ℕ) : Type 0 where
  pub inside : c < slots w t
  pub obscuring : Obscures w (slot_words w t c) new
  pub lowest : (i : ℕ) → i < c → Obscures w (slot_words w t i) new → ⊥

abbrev pub Uncovered : ℕ → List ℕ → Words → Type 0
Uncovered w t new = (i : ℕ) → i < slots w t → Obscures w (slot_words w t i) new → ⊥

-- what a rule with its rank is checked for in a table: 6; then nothing more if it replaces a rule, else 8 and 9
unfoldable pub new_checks : ℕ → Bool → List ℕ → Words → Check
new_checks w u t new = or_else (check_known w t new) (cond (replaces w u t new) Pass (or_else (check_tie w u t new) (check_full w t)))

-- what planning adds to that: 10, unless it replaces a rule; 11 is its buffer's
unfoldable pub place_checks : ℕ → Bool → List ℕ → Words → Check
place_checks w u t new = cond (replaces w u t new) Pass (check_crossed w u t new)

-- the record of a rule, as a table of one slot
abbrev pub rule_words : ℕ → Rule → Words
rule_words w rule = slot_words w (record_of w rule) 0

-- all that a rule is checked for as it is given: 5, 18, and those; from 6 on the rule has its rank
unfoldable pub rule_checks : ℕ → Bool → List ℕ → Given → Check
rule_checks w u t given = or_else (check_given w given) (new_checks w u t (rule_words w (ranked w given)))

-- checks 1 to 10 of an insert, and 18 after 5: 7 does not apply
unfoldable pub insert_checks : ℕ → Bool → List ℕ → Given → Check
insert_checks w u t given = or_else (table_checks w u t) (or_else (rule_checks w u t given) (place_checks w u t (rule_words w (ranked w given))))

-- what the code tells of a new rule: the check that it comes to, ..
abbrev pub found_check : Result (Option ℕ) Refusal → Check
found_check (Ok replaced) = Pass
found_check (Err refused) = Fail refused.cause refused.spot

-- .. and which rule it replaces
abbrev pub FoundIn : ℕ → Bool → List ℕ → Words → Result (Option ℕ) Refusal → Type 0
FoundIn w u t new (Ok None) = replaces w u t new ≡ false
FoundIn w u t new (Ok (Some slot)) = (slot ≡ replaced_slot w u t new) × (replaces w u t new ≡ true)
FoundIn w u t new (Err refused) = Unit {0}
