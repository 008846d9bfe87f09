-- Why a script line is declined: 13 comes first, and then the rows of the call behind it, in their order.
-- A line has no buffer, so that 11 is in none of these lists.
use Rattle.std.specs.Prelude.{◌≡◌, false, ◌⊎◌, List, [], ◌∷◌, ℕ, ◌<◌}
use Rattle.records.specs.Editions.{under13}
use Rattle.records.specs.declared.Cause.TheVariants.{Shape, Line}
use Rattle.script_commands.specs.declared.Command.{Command}
use Rattle.script_commands.specs.declared.Command.TheVariants.{Table, Insert, Delete, Lookup, Malformed}
use Rattle.script_commands.specs.Commands.{inserted_rule, command_of}
use Rattle.script_commands.specs.Forms.{WellFormed}
use Rattle.refusals.specs.Rows.{Row, row_at}
use Rattle.refusals.specs.Calls.{lookup_rows, new_rule_rows, old_rule_rows}

-- T with a slot count that is not 1 to 1,024 is 1; the other lines are declined as the calls are
abbrev pub command_rows : List ℕ → Command → List Row
command_rows t (Table new) = row_at Shape ((new.slots ≡ 0) ⊎ (1024 < new.slots)) 0 ∷ []
command_rows t (Insert insertion) = new_rule_rows 2 false t (under13 (inserted_rule insertion))
command_rows t (Delete deletion) = old_rule_rows 2 false t deletion.id
command_rows t (Lookup query) = lookup_rows 2 t
command_rows t Malformed = []

-- 13: script line malformed, spot its number
abbrev pub line_rows : List ℕ → ℕ → List ℕ → List Row
line_rows t number line = row_at Line (WellFormed line → ⊥) number ∷ command_rows t (command_of line)
