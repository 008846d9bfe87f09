-- The rules of a table, read off its slots.
use Rattle.std.specs.Prelude.{cond, List, [], ◌∷◌, ℕ, zero, suc}
use Rattle.records.specs.Record.{slot_words, empty, rule_of}
use Rattle.records.specs.Order.{slots}
use Rattle.records.specs.declared.Rule.{Rule}

-- the rules of the occupied slots below n
unfoldable pub rules_below : ℕ → List ℕ → ℕ → List Rule
rules_below w t zero = []
rules_below w t (suc i) = cond (empty w (slot_words w t i)) (rules_below w t i) (rule_of w (slot_words w t i) ∷ rules_below w t i)

abbrev pub table_rules : ℕ → List ℕ → List Rule
table_rules w t = rules_below w t (slots w t)
