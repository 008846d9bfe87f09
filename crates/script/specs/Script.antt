-- Document 01, "The script program": what a line does to the table, and the bytes that it prints, for every line.
-- The table is the list of its words; before a good T it has none.
use Rattle.std.specs.Prelude.{◌≡◌, cond, ◌&&◌, List, ◌++◌, ℕ, ◌*◌, leb, length, take, drop}
use Rattle.records.specs.Record.{word}
use Rattle.records.specs.Checks.{cause_number}
use Rattle.records.specs.declared.Cause.TheVariants.{Shape, Line}
use Rattle.lookups.specs.Lookup.{lookup_answer}
use Rattle.histories.specs.Histories.{empty_table}
use Rattle.script_lines.specs.Blocks.{Outcome}
use Rattle.script_printing.specs.Printing.{Shown}
use Rattle.script_commands.specs.Commands.{command_of, inserted_rule, key_of}
use Rattle.script_commands.specs.declared.Command.{Command}
use Rattle.script_commands.specs.declared.Command.TheVariants.{Table, Insert, Delete, Lookup, Malformed}
use Rattle.script_answers.specs.Answers.{table_bytes}
use Rattle.script_operations.specs.Outcomes.{outcome_of, refused, lookup_bytes, insert_outcome, delete_outcome}
use Rattle.script.specs.declared.Ran.{Ran}

-- `T slots` makes an empty table
unfoldable pub table_outcome : List ℕ → ℕ → Outcome (List ℕ)
table_outcome t slots = cond (leb 1 slots && leb slots 1024) (outcome_of (empty_table 2 slots) (table_bytes slots)) (refused t (cause_number Shape) 0)

-- `L key`
abbrev pub lookup_outcome : List ℕ → List ℕ → Outcome (List ℕ)
lookup_outcome t key = outcome_of t (lookup_bytes (lookup_answer 2 t (word key)))

-- what a command does; a malformed line is refused with its number
abbrev pub command_outcome : List ℕ → ℕ → Command → Outcome (List ℕ)
command_outcome t number (Table new) = table_outcome t new.slots
command_outcome t number (Insert insertion) = insert_outcome t (inserted_rule insertion)
command_outcome t number (Delete deletion) = delete_outcome t deletion.id
command_outcome t number (Lookup query) = lookup_outcome t (key_of query)
command_outcome t number Malformed = refused t (cause_number Line) number

-- what a line does
abbrev pub line_outcome : List ℕ → ℕ → List ℕ → Outcome (List ℕ)
line_outcome t number line = command_outcome t number (command_of line)

-- the table in a lent memory: the words of so many slots at its start
abbrev pub table_in : List ℕ → ℕ → List ℕ
table_in memory slots = take (slots * 6) memory

-- What a call leaves: memory before and after, the buffer for what is printed before and after. The table afterwards stands at the memory's
-- start, and words past it are left as they were; so are bytes past those printed.
pub record Left (told : Outcome (List ℕ)) (ran : Ran) (memory memory' out out' : List ℕ) : Type 0 where
  pub slots : ran.slots * 6 ≡ length told.table
  pub table : memory' ≡ told.table ++ drop (length told.table) memory
  pub shown : Shown out told.printed ran.length out'
