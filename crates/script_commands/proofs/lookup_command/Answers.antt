-- `script_commands::lookup_command` meets its contract.
-- The test and the words are the definition's.
use Rattle.script_commands.specs.LineLaws.{lookup_good, lookup_bad}
use Rattle.script_commands.proofs.lookup_command.Goals as goal

pub returns-then-good : goal.returns-then-good
returns-then-good c =
    lookup_good c.args.key.now c.is_symbol_field-good.result c.symbol_words-words.result
    c.is_symbol_field-good.ensures c.symbol_words-words.ensures c.if-good.true

pub returns : goal.returns
returns c = lookup_bad c.args.key.now c.is_symbol_field-good.result c.is_symbol_field-good.ensures c.if-good.false
