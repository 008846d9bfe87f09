-- What each command is answered on the table that it finds: letter, number and values.
use Rattle.std.specs.Prelude.{cond, ◌&&◌, List, [], ◌∷◌, ℕ, leb}
use Rattle.records.specs.Record.{word}
use Rattle.records.specs.Checks.{success, refusal}
use Rattle.records.specs.declared.Cause.TheVariants.{Shape, Line}
use Rattle.lookups.specs.Lookup.{lookup_answer}
use Rattle.script_commands.specs.Commands.{inserted_rule, key_of}
use Rattle.script_commands.specs.declared.Command.{Command}
use Rattle.script_commands.specs.declared.Command.TheVariants.{Table, Insert, Delete, Lookup, Malformed}
use Rattle.script_operations.specs.Told.{LineTold, lettered, insert_told, delete_told, looked_told}

-- `T slots`
unfoldable pub table_told : ℕ → LineTold
table_told slots = cond (leb 1 slots && leb slots 1024) (lettered 78 (success (slots ∷ []))) (lettered 82 (refusal Shape 0))

-- what a command is answered, on a table, in a line of this number
abbrev pub command_told : List ℕ → ℕ → Command → LineTold
command_told t number (Table new) = table_told new.slots
command_told t number (Insert insertion) = insert_told t (inserted_rule insertion)
command_told t number (Delete deletion) = delete_told t deletion.id
command_told t number (Lookup query) = looked_told (lookup_answer 2 t (word (key_of query)))
command_told t number Malformed = lettered 82 (refusal Line number)
