-- On the way back each digit is printed behind those of the tenth.
use Rattle.std.proofs.Common.{arith, ap}
use Rattle.std.specs.Prelude.{length}
use Rattle.script_text.proofs.DecimalLaws.{digits_one, digits_more, digits_longer}
use Rattle.script_printing.specs.PrintingLaws.{printed_then}
use Rattle.script_printing.proofs.+put_decimal.Goals as goal

pub put_byte-requires : goal.put_byte-requires
put_byte-requires t c = omega (arith, ap length (digits_one c.args.number c.if-number-lt10.true), c.requires)

pub returns-then-number-lt10 : goal.returns-then-number-lt10
returns-then-number-lt10 t c = rw (digits_one c.args.number c.if-number-lt10.true) c.put_byte.ensures

pub put_decimal-end-requires : goal.put_decimal-end-requires
put_decimal-end-requires t c = (omega (arith, c.decreases), omega (arith, digits_longer c.args.number c.if-number-lt10.false, c.requires))

pub put_byte-requires-2 : goal.put_byte-requires-2
put_byte-requires-2 t c = omega (arith, digits_longer c.args.number c.if-number-lt10.false, c.requires, c.put_decimal-end.ensures.place)

pub returns : goal.returns
returns t c =
    rw (digits_more c.args.number c.if-number-lt10.false)
    (printed_then c.put_decimal-end.ensures (omega (arith, c.requires)) c.put_byte-2.ensures)
