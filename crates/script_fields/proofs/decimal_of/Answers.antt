-- `script_fields::decimal_of` meets its contract.
-- What has been read, followed by the digits left, always means the same number, which is below 10^10.
use native.Mathlib.Omega.{arith}
use mathlib.Core.Path.{sym, ap, ◌∙◌}
use Prim.Native.Nat.{ℕ, ◌+◌, ◌*◌}
use lib.ListN.{get_or, drop}
use borrow.Author.Tests.{leb-true}
use Rattle.search.specs.SearchLaws.{and_left}
use Rattle.script_text.specs.Decimal.{decimal_on, digit}
use Rattle.script_text.proofs.DecimalLaws.{decimal_grows}
use Rattle.script_fields.proofs.FieldsLaws.{every_at, decimal_on_lem, decimal_end, decimal_small}
use Rattle.script_fields.proofs.decimal_of.Goals as goal

pub overflow_mul-value : goal.overflow_mul-value
overflow_mul-value c =
    let field = c.args.field.now in
    let turn = c.loop-byte in
    omega (arith, decimal_grows turn.value (drop turn.byte-index field), turn.invariant, decimal_small field c.requires.field_len_bound c.requires.field_value)

pub overflow_sub-byte : goal.overflow_sub-byte
overflow_sub-byte c =
    let at = c.loop-byte.byte-index in
    omega (arith, leb-true 48 (get_or c.args.field.now at 0) (and_left _ _ (every_at digit c.args.field.now c.requires.field_value at c.loop-byte-test.true)))

pub overflow_add-value : goal.overflow_add-value
overflow_add-value c =
    let field = c.args.field.now in
    let turn = c.loop-byte in
    omega (arith, decimal_grows turn.value (drop turn.byte-index field), turn.invariant, decimal_small field c.requires.field_len_bound c.requires.field_value)

pub loop-byte-preserved : goal.loop-byte-preserved
loop-byte-preserved c =
    let field = c.args.field.now in
    let turn = c.loop-byte in
    ap (λ (n : ℕ). decimal_on (turn.value * 10 + n) (drop (turn.byte-index + 1) field)) c.from.ensures
    ∙ (sym (decimal_on_lem turn.value field turn.byte-index c.loop-byte-test.true) ∙ turn.invariant)

pub returns : goal.returns
returns c =
    let field = c.args.field.now in
    sym (decimal_end c.loop-byte.value field c.loop-byte.byte-index c.loop-byte-test.false) ∙ c.loop-byte.invariant
