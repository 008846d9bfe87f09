-- `script_fields::symbol_words` meets its contract.
-- Its two words are those of the definition.
use Rattle.script_fields.proofs.symbol_words.Goals as goal

pub returns : goal.returns
returns c = rw (c.symbol_word-2.ensures, c.symbol_word.ensures)
