-- `script::run_line` meets its contract.
-- The line is parsed, and its command is run on the table in the memory.
use mathlib.Core.Path.{◌≡◌, ap, ap₂, ◌∙◌}
use mathlib.Core.List.{List}
use Prim.Native.Nat.{ℕ}
use lib.ListN.{length}
use borrow.Author.Rules.{rules}
use Rattle.script_commands.specs.declared.Command.{Command}
use Rattle.script.specs.Script.{command_outcome, table_in}
use Rattle.script.specs.Told.{command_told}
use Rattle.script.proofs.ScriptLaws.{left_is, table_present}
use Rattle.script.proofs.run_line.Goals as goal

pub returns : goal.returns
returns c =
    let a = c.args in
    let room : length a.memory.now ≡ 6144 = search rules in
    let table = ap (table_in a.memory.now) c.slots_present-present.ensures ∙ table_present a.memory.now a.slots room in
    record { left = left_is (ap₂ (λ (t : List ℕ) (x : Command). command_outcome t a.number x) table c.parse-command.ensures) c.run_command.ensures.left; answer_value = c.run_command.ensures.answer_value ∙ ap₂ (λ (t : List ℕ) (x : Command). command_told t a.number x) table c.parse-command.ensures }
