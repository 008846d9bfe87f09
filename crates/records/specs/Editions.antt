-- Document 02, 2026-07: the edition that a rule is given with, the rank that it gives the rule, and checks 5 and 18 of it.
-- Below these checks every rule has its rank for its priority, and order compares ranks alone; no check of a table, lookup or image knows an edition.
use Rattle.std.specs.Prelude.{◌≡◌, Bool, cond, ◌&&◌, ◌||◌, ◌⊎◌, List, ℕ, ◌+◌, ◌*◌, eqb, set}
use Rattle.ternary.specs.Pattern.{Words, full_mask}
use Rattle.records.specs.Record.{word, slot_words, mask, rank, sound_rule, rule_of}
use Rattle.records.specs.Checks.{or_else}
use Rattle.records.specs.declared.Rule.{Rule}
use Rattle.records.specs.declared.Cause.TheVariants.{Rule as RuleCause, Edition as EditionCause}
use Rattle.records.specs.Verdict.{Check}
use Rattle.records.specs.Verdict.{Pass, Fail}

-- a rule as a call is given it: with its priority, and its edition
pub record Given : Type 0 where
  pub rule : Rule
  pub edition : ℕ

-- one that is lent as a record, and one under 1.3, as every rule of the script is
abbrev pub lent_rule : ℕ → ℕ → List ℕ → Given
lent_rule w e lent = record { rule = rule_of w (word lent); edition = e }

abbrev pub under13 : Rule → Given
under13 rule = record { rule = rule; edition = 13 }

-- under 1.0 a rule with every mask bit set gets rank 65,536; any other rule's rank is its priority
unfoldable pub rank_of : ℕ → ℕ → ℕ → Words → ℕ
rank_of w e priority mask = cond (eqb e 10 && full_mask w mask) 65536 priority

-- the rule that is planned and put in: its rank stands for its priority
unfoldable pub ranked : ℕ → Given → Rule
ranked w g = record {
  id = g.rule.id;
  priority = rank_of w g.edition g.rule.priority (word g.rule.mask);
  value = g.rule.value;
  mask = g.rule.mask;
  action = g.rule.action;
}

-- the same of a record that is lent: its last word becomes the rank
abbrev pub lent_rank : ℕ → ℕ → List ℕ → ℕ
lent_rank w e lent = rank_of w e (rank w (slot_words w lent 0)) (mask w (slot_words w lent 0))

abbrev pub ranked_record : ℕ → ℕ → List ℕ → List ℕ
ranked_record w e lent = set lent (2 * w + 1) (lent_rank w e lent)

-- the editions that there are: 1.0 and 1.3
unfoldable pub known_edition : ℕ → Bool
known_edition e = eqb e 10 || eqb e 13

abbrev pub Edition : ℕ → Type 0
Edition e = (e ≡ 10) ⊎ (e ≡ 13)

-- 5: the rule is unsound
unfoldable pub check_sound : ℕ → Rule → Check
check_sound w rule = cond (sound_rule w rule) Pass (Fail RuleCause 0)

-- 18: another edition
unfoldable pub check_edition : ℕ → Check
check_edition e = cond (known_edition e) Pass (Fail EditionCause 0)

-- 18 is tested after 5
unfoldable pub check_given : ℕ → Given → Check
check_given w g = or_else (check_sound w g.rule) (check_edition g.edition)
