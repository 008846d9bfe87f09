-- `script_commands::delete_command` meets its contract.
-- A number that is told is the field's number.
use mathlib.Core.Path.{refl}
use Rattle.script_fields.proofs.FieldsLaws.{number_told, number_untold, option_some, option_none}
use Rattle.script_commands.specs.Commands.{delete_command}
use Rattle.script_commands.specs.declared.Command.TheVariants.{Delete}
use Rattle.script_commands.proofs.delete_command.Goals as goal

pub returns-in-Some : goal.returns-in-Some
unfolding delete_command
returns-in-Some c =
    let field = c.args.id.now in
    let fits = option_some field c.in-Some.id c.in-Some.ensures in
    let told = number_told field c.in-Some.id fits.0 fits.1 in
    rw told.0 (λ i. Delete (record { id = told.1 i }))

pub returns-in-None : goal.returns-in-None
unfolding delete_command
returns-in-None c = rw (number_untold c.args.id.now _ refl (option_none c.args.id.now c.in-None.ensures))
