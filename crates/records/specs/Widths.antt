-- Document 02, 2026-09: the widths that there are, and the check that a call makes of its width and of the words lent with it.
-- w is the number of words of a value. Everything but this check, and what follows from it, holds for any number of words.
use Rattle.std.specs.Prelude.{◌≡◌, Bool, cond, ◌||◌, ◌⊎◌, ℕ, ◌≤◌, eqb}
use Rattle.records.specs.Record.{record_words}
use Rattle.records.specs.Checks.{or_else}
use Rattle.records.specs.declared.Cause.TheVariants.{Shape}
use Rattle.records.specs.Verdict.{Check}
use Rattle.records.specs.Verdict.{Pass, Fail}

-- values and masks have two words or five
unfoldable pub known : ℕ → Bool
known w = eqb w 2 || eqb w 5

-- the same, as functions below the calls ask for it; the bounds stand first, where arithmetic finds them
abbrev pub Width : ℕ → Type 0
Width w = (2 ≤ w) × (w ≤ 5) × ((w ≡ 2) ⊎ (w ≡ 5))

-- 1: another width
unfoldable pub check_width : ℕ → Check
check_width w = cond (known w) Pass (Fail Shape 0)

-- 1: another number of words than is needed
unfoldable pub check_words : ℕ → ℕ → Check
check_words words needed = cond (eqb words needed) Pass (Fail Shape 0)

-- both, of a key and of a rule, a record, that is lent with a call
unfoldable pub check_key : ℕ → ℕ → Check
check_key w words = or_else (check_width w) (check_words words w)

unfoldable pub check_rule : ℕ → ℕ → Check
check_rule w words = or_else (check_width w) (check_words words (record_words w))

-- what a call leaves in a lent buffer: as it was where a check fails
abbrev pub leaves : {A : Type 0} → Check → A → A → A
leaves Pass after before = after
leaves (Fail cause spot) after before = before
