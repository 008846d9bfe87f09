-- `script_commands::insert_command` meets its contract.
-- Each return is one of the definition's cases, in another order.
use mathlib.Core.Path.{sym, ◌∙◌}
use Rattle.script_commands.specs.LineLaws.{id_none, priority_none, action_none, pattern_bad, insert_told}
use Rattle.script_commands.proofs.insert_command.Goals as goal

pub returns-in_default : goal.returns-in_default
returns-in_default c =
    let a = c.args in id_none a.id.now a.priority.now a.pattern.now a.action.now c.in_default.ensures

pub returns-in_default-number_in : goal.returns-in_default-number_in
returns-in_default-number_in c =
    let a = c.args in priority_none a.id.now a.priority.now a.pattern.now a.action.now c.in_default-number_in.ensures

pub returns-in_default-number_in-2 : goal.returns-in_default-number_in-2
returns-in_default-number_in-2 c =
    let a = c.args in action_none a.id.now a.priority.now a.pattern.now a.action.now c.in_default-number_in-2.ensures

pub returns-then-not-is_symbol_field : goal.returns-then-not-is_symbol_field
returns-then-not-is_symbol_field c =
    let a = c.args in
    pattern_bad a.id.now a.priority.now a.pattern.now a.action.now (sym c.is_symbol_field.ensures ∙ c.if-not-is_symbol_field.true)

pub returns : goal.returns
returns c =
    let a = c.args in
    let good = sym c.is_symbol_field.ensures ∙ c.if-not-is_symbol_field.false in
    insert_told a.id.now a.priority.now a.pattern.now a.action.now _ _ _ _ _
    c.in-Some.ensures c.in-Some-number_in.ensures c.in-Some-number_in-2.ensures good c.symbol_words.ensures c.symbol_words-2.ensures
