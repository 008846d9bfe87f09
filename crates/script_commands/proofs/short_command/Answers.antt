-- `script_commands::short_command` meets its contract.
-- The letter decides, in the definition's order.
use native.Mathlib.Omega.{arith}
use borrow.Author.Tests.{ne_eqb}
use Rattle.script_commands.specs.Commands.{short_command}
use Rattle.script_commands.proofs.short_command.Goals as goal

pub returns-in-84 : goal.returns-in-84
unfolding short_command
returns-in-84 c = rw c.in-84.is c.table_command.ensures

pub returns-in-68 : goal.returns-in-68
unfolding short_command
returns-in-68 c = rw c.in-68.is c.delete_command.ensures

pub returns-in-76 : goal.returns-in-76
unfolding short_command
returns-in-76 c = rw c.in-76.is c.lookup_command.ensures

pub returns-in_default : goal.returns-in_default
unfolding short_command
returns-in_default c =
    let letter = c.args.letter in
    rw (ne_eqb letter 84 (λ e. omega arith), ne_eqb letter 68 (λ e. omega arith), ne_eqb letter 76 (λ e. omega arith))
