-- `script::run_command` meets its contract.
-- Each command is what its letter says.
use mathlib.Core.Path.{sym, ap, ◌∙◌}
use mathlib.Core.List.{List}
use Prim.Native.Nat.{ℕ}
use Rattle.records.specs.Record.{word}
use Rattle.lookups.specs.Lookup.{lookup_answer}
use Rattle.script_operations.specs.Told.{insert_told, looked_told}
use Rattle.script_operations.specs.Outcomes.{insert_outcome}
use Rattle.script.specs.Told.{command_told}
use Rattle.script.specs.Script.{lookup_outcome, command_outcome, table_in}
use Rattle.script.proofs.ScriptLaws.{left_is, left_malformed}
use Rattle.script.proofs.run_command.Goals as goal

pub returns-in-Table : goal.returns-in-Table
returns-in-Table c =
    let a = c.args in
    let t = table_in a.memory.now a.present in
    let same = sym c.in-Table.is in
    record { left = left_is (ap (command_outcome t a.number) same) c.new_table.ensures.left; answer_value = c.new_table.ensures.answer_value ∙ (ap (command_told t a.number) same) }

pub returns-in-Insert : goal.returns-in-Insert
returns-in-Insert c =
    let a = c.args in
    let t = table_in a.memory.now a.present in
    let same = sym c.in-Insert.is in
    record { left = left_is (ap (insert_outcome t) c.inserted_rule.ensures ∙ ap (command_outcome t a.number) same) c.insert_in.ensures.left; answer_value = c.insert_in.ensures.answer_value ∙ (ap (insert_told t) c.inserted_rule.ensures ∙ ap (command_told t a.number) same) }

pub returns-in-Delete : goal.returns-in-Delete
returns-in-Delete c =
    let a = c.args in
    let t = table_in a.memory.now a.present in
    let same = sym c.in-Delete.is in
    record { left = left_is (ap (command_outcome t a.number) same) c.delete_in.ensures.left; answer_value = c.delete_in.ensures.answer_value ∙ (ap (command_told t a.number) same) }

pub returns-in-Lookup : goal.returns-in-Lookup
returns-in-Lookup c =
    let a = c.args in
    let t = table_in a.memory.now a.present in
    let same = sym c.in-Lookup.is in
    record { left = left_is (ap (lookup_outcome t) c.key_of.ensures ∙ ap (command_outcome t a.number) same) c.lookup_in.ensures.left; answer_value = c.lookup_in.ensures.answer_value ∙ (ap (λ (k : List ℕ). looked_told (lookup_answer 2 t (word k))) c.key_of.ensures ∙ ap (command_told t a.number) same) }

pub returns-in-Malformed : goal.returns-in-Malformed
returns-in-Malformed c =
    let t = table_in c.args.memory.now c.args.present in
    let same = sym c.in-Malformed.is in
    record {
      left = left_is (ap (command_outcome t c.args.number) same)
          (left_malformed c.args.memory.now c.args.present c.args.number c.requires.0 c.requires.1 c.malformed.result c.malformed.ensures.slots_value.0 c.malformed.ensures.slots_value.1);
      answer_value = c.malformed.ensures.answer_value ∙ ap (command_told t c.args.number) same;
    }
