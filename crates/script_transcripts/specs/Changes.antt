-- Demand 2 of scripts: the changes accepted since the last good T, and the tables that they reach.
use Rattle.std.specs.Prelude.{◌≡◌, cond, ◌&&◌, false, ◌⊎◌, List, [], ◌∷◌, ℕ, leb}
use Rattle.std.proofs.Math.Option.{Option, none, some}
use Rattle.records.specs.Checks.{passes}
use Rattle.records.specs.Editions.{under13}
use Rattle.records.specs.declared.Rule.{Rule}
use Rattle.neighbours.specs.Neighbours.{insert_checks}
use Rattle.delete_plans.specs.Deletes.{delete_checks}
use Rattle.histories.specs.RuleSet.{Change, delete}
use Rattle.histories.specs.Inserted.{insert_changes}
use Rattle.histories.specs.Histories.{Reached}
use Rattle.script_lines.specs.Lines.{next_number}
use Rattle.script_commands.specs.Commands.{command_of, inserted_rule}
use Rattle.script_commands.specs.declared.Command.{Command}
use Rattle.script_commands.specs.declared.Command.TheVariants.{Table, Insert, Delete, Lookup, Malformed}
use Rattle.script_answers.specs.Answers.{hit_bytes, miss_bytes}
use Rattle.script.specs.Script.{line_outcome}

-- the changes accepted since the last good T, the latest first, after one command more: a good T starts anew, an accepted insert, with
-- the rule that it replaces, and an accepted delete are changes, anything else keeps them
abbrev pub history_after : List ℕ → List Change → Command → List Change
history_after t history (Table new) = cond (leb 1 new.slots && leb new.slots 1024) [] history
history_after t history (Insert insertion) = cond (passes (insert_checks 2 false t (under13 (inserted_rule insertion)))) (insert_changes 2 false t (inserted_rule insertion) history) history
history_after t history (Delete deletion) = cond (passes (delete_checks 2 false t deletion.id)) (delete deletion.id ∷ history) history
history_after t history (Lookup query) = history
history_after t history Malformed = history

-- the same after lines, the first with this number
unfoldable pub history_of : List ℕ → ℕ → List Change → List (List ℕ) → List Change
history_of t number history [] = history
history_of t number history (line ∷ lines) =
    history_of (line_outcome t number line).table (next_number number) (history_after t history (command_of line)) lines

-- the table has no slots, and nothing was accepted; or it is reached by the changes
abbrev pub Since : List Change → List ℕ → Type 0
Since history t = ((t ≡ []) × (history ≡ [])) ⊎ Reached 2 false history t

-- what an L line prints by the highest-priority match among the rules: `A slot id action` with some slot, or `M`
abbrev pub AnswerOf : Option Rule → List ℕ → Type 0
AnswerOf none bytes = bytes ≡ miss_bytes
AnswerOf (some rule) bytes = (slot : ℕ) × (bytes ≡ hit_bytes slot rule.id rule.action)
