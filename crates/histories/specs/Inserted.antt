-- Document 02, 2026-03: what an insert changes. A rule that replaces another, which then counts as deleted, and one that replaces none.
use Rattle.std.specs.Prelude.{Bool, cond, List, ◌∷◌, ℕ}
use Rattle.records.specs.declared.Rule.{Rule}
use Rattle.neighbours.specs.Neighbours.{replaces, replaced_id, rule_words}
use Rattle.histories.specs.RuleSet.{Change, insert, delete, without}

-- the changes of an insert, before those of the history so far: the rule is inserted, and the one that it replaces counts as deleted
abbrev pub insert_changes : ℕ → Bool → List ℕ → Rule → List Change → List Change
insert_changes w u t rule history =
    insert rule ∷ cond (replaces w u t (rule_words w rule)) (delete (replaced_id w u t (rule_words w rule)) ∷ history) history

-- so the rules after it: the rule, and those of before without the one in the replaced slot
abbrev pub rules_inserted : ℕ → Bool → List ℕ → Rule → List Rule → List Rule
rules_inserted w u t rule rules = rule ∷ cond (replaces w u t (rule_words w rule)) (without (replaced_id w u t (rule_words w rule)) rules) rules
