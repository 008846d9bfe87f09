-- `script_commands::table_command` meets its contract.
-- A number that is told is the field's number.
use mathlib.Core.Path.{refl}
use Rattle.script_fields.proofs.FieldsLaws.{number_told, number_untold, option_some, option_none}
use Rattle.script_commands.specs.Commands.{table_command}
use Rattle.script_commands.specs.declared.Command.TheVariants.{Table}
use Rattle.script_commands.proofs.table_command.Goals as goal

pub returns-in-Some : goal.returns-in-Some
unfolding table_command
returns-in-Some c =
    let field = c.args.slots.now in
    let fits = option_some field c.in-Some.slots c.in-Some.ensures in
    let told = number_told field c.in-Some.slots fits.0 fits.1 in
    rw told.0 (λ i. Table (record { slots = told.1 i }))

pub returns-in-None : goal.returns-in-None
unfolding table_command
returns-in-None c = rw (number_untold c.args.slots.now _ refl (option_none c.args.slots.now c.in-None.ensures))
