-- End theorems on what an insert changes: its history's rules, and the two cases.
use Rattle.std.specs.Prelude.{◌≡◌, refl, Bool, true, false, cond, List, ◌∷◌, ℕ}
use Rattle.std.proofs.Common.{sym, ap, ap₂}
use Rattle.records.specs.Record.{slot_words, ident}
use Rattle.records.specs.declared.Rule.{Rule}
use Rattle.neighbours.specs.Neighbours.{replaces, replaced_id, rule_words}
use Rattle.insert_plans.specs.Insertable.{Insertable, Replacing}
use Rattle.insert_plans.proofs.InsertableLaws.{insertable_fresh, replacing_slot}
use Rattle.histories.specs.RuleSet.{Change, insert, delete, rule_set, without}
use Rattle.histories.specs.Inserted.{insert_changes, rules_inserted}

-- the rules of the changed history are the changed rules
pub changes_rules : (w : ℕ) (u : Bool) (t : List ℕ) (rule : Rule) (history : List Change)
    → rule_set (insert_changes w u t rule history) ≡ rules_inserted w u t rule (rule_set history)
changes_rules w u t rule history = ap (λ (rules : List Rule). rule ∷ rules) (pick (replaces w u t (rule_words w rule)) (replaced_id w u t (rule_words w rule)))
  where
    pick : (b : Bool) (id : ℕ) → rule_set (cond b (delete id ∷ history) history) ≡ cond b (without id (rule_set history)) (rule_set history)
    pick true id = refl
    pick false id = refl

-- the two cases, as functions of the rules of before, ..
abbrev rules_by : Rule → ℕ → Bool → List Rule → List Rule
rules_by rule id replaced rules = rule ∷ cond replaced (without id rules) rules

pub inserted_fresh : (w : ℕ) (u : Bool) (t : List ℕ) (rule : Rule) → Insertable w u t rule
    → ◌≡◌ {A = List Rule → List Rule} (λ rules. rule ∷ rules) (rules_inserted w u t rule)
inserted_fresh w u t rule p = ap (rules_by rule (replaced_id w u t (rule_words w rule))) (sym (insertable_fresh w u t rule p))

pub inserted_replaced : (w : ℕ) (u : Bool) (t : List ℕ) (rule : Rule) (s : ℕ) → Replacing w u t rule s
    → ◌≡◌ {A = List Rule → List Rule} (λ rules. rule ∷ without (ident w (slot_words w t s)) rules) (rules_inserted w u t rule)
inserted_replaced w u t rule s r =
    let found = replacing_slot w u t rule s r in
    ap₂ (λ (slot : ℕ) (replaced : Bool). rules_by rule (ident w (slot_words w t slot)) replaced) (sym found.0) (sym found.1)

-- .. and of the history
pub changes_replaced : (w : ℕ) (u : Bool) (t : List ℕ) (rule : Rule) (s : ℕ) (history : List Change) → Replacing w u t rule s
    → insert_changes w u t rule history ≡ insert rule ∷ delete (ident w (slot_words w t s)) ∷ history
changes_replaced w u t rule s history r = let found = replacing_slot w u t rule s r in rw (found.1, found.0)
