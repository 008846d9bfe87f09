-- Rules without slots: which were inserted and not since deleted, and the highest-ranked match of a key among them: of such a rule the field priority holds its rank.
-- What a key is to be answered depends on these alone.
use Rattle.std.specs.Prelude.{◌≡◌, Bool, true, false, cond, ◌⊎◌, List, [], ◌∷◌, ℕ, ◌≤◌, eqb, ltb}
use Rattle.std.proofs.Math.Option.{Option, none, some}
use Rattle.ternary.specs.Pattern.{Words, matches}
use Rattle.records.specs.Record.{word}
use Rattle.records.specs.declared.Rule.{Rule}

-- one accepted change of the rules
pub data Change : Type 0 where
  insert : Rule → Change
  delete : ℕ → Change

-- the rules of other ids
abbrev pub without : ℕ → List Rule → List Rule
without id [] = []
without id (r ∷ rules) = cond (eqb r.id id) (without id rules) (r ∷ without id rules)

-- the rules inserted and not since deleted, by a history of changes, the latest change first
abbrev pub rule_set : List Change → List Rule
rule_set [] = []
rule_set (insert r ∷ history) = r ∷ rule_set history
rule_set (delete id ∷ history) = without id (rule_set history)

-- document 01: a key matches a rule when it equals the value at all bits cared for
abbrev pub rule_matches : ℕ → Words → Rule → Bool
rule_matches w key r = matches w key (word r.value) (word r.mask)

-- of a rule and the highest among others the one of higher rank
abbrev pub higher : Rule → Option Rule → Option Rule
higher r none = some r
higher r (some s) = cond (ltb s.priority r.priority) (some r) (some s)

-- the highest-ranked match of a key
unfoldable pub highest_match : ℕ → Words → List Rule → Option Rule
highest_match w key [] = none
highest_match w key (r ∷ rules) = cond (rule_matches w key r) (higher r (highest_match w key rules)) (highest_match w key rules)

-- document 01: a key's reply is id and action, or a miss
abbrev pub rule_reply : Option Rule → List ℕ
rule_reply none = []
rule_reply (some r) = r.id ∷ r.action ∷ []

abbrev pub set_reply : ℕ → List Rule → Words → List ℕ
set_reply w rules key = rule_reply (highest_match w key rules)

-- a rule of the list
abbrev pub Member : Rule → List Rule → Type 0
Member r [] = ⊥
Member r (s ∷ rules) = (r ≡ s) ⊎ Member r rules

-- what the highest-ranked match is, in words: no rule matches; or it is a rule of the list, it matches, and no rule that matches has
-- a higher rank
abbrev pub IsHighest : ℕ → Words → List Rule → Option Rule → Type 0
IsHighest w key rules none = (r : Rule) → Member r rules → rule_matches w key r ≡ false
IsHighest w key rules (some s) =
    Member s rules × (rule_matches w key s ≡ true) × ((r : Rule) → Member r rules → rule_matches w key r ≡ true → r.priority ≤ s.priority)
