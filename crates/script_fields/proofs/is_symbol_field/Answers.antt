-- `script_fields::is_symbol_field` meets its contract.
-- Each test is one of the definition's.
use borrow.Author.Tests.{le-leb, lt-leb}
use lib.ListN.{length}
use Rattle.script_fields.proofs.is_symbol_field.Goals as goal

pub returns-then-field-lt1 : goal.returns-then-field-lt1
returns-then-field-lt1 c = rw (lt-leb 1 (length c.args.field.now) c.if-field-lt1.true)

pub returns-then-field-gt128 : goal.returns-then-field-gt128
returns-then-field-gt128 c = rw (le-leb 1 (length c.args.field.now) c.if-field-lt1.false, lt-leb (length c.args.field.now) 128 c.if-field-gt128.true)

pub returns : goal.returns
returns c =
    let field = c.args.field.now in
    rw (le-leb 1 (length field) c.if-field-lt1.false, le-leb (length field) 128 c.if-field-gt128.false) c.all_symbols.ensures
