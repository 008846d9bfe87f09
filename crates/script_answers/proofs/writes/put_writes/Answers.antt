-- `script_answers::writes::put_writes` meets its contract.
-- After each turn the line of one word more is printed, and no line has more than 14 bytes.
use native.Mathlib.Omega.{arith}
use mathlib.Core.Path.{refl, subst, ◌∙◌}
use mathlib.Core.List.{List}
use Prim.Native.Nat.{ℕ}
use lib.ListN.{get_or}
use Rattle.script_printing.specs.Printing.{Printed}
use Rattle.script_printing.specs.PrintingLaws.{printed_none, printed_then}
use Rattle.script_answers.specs.Answers.{printed_writes}
use Rattle.script_answers.proofs.RoomLaws.{line_short, writes_on, writes_all}
use Rattle.script_answers.proofs.writes.put_writes.Goals as goal

pub loop-word-init : goal.loop-word-init
unfolding printed_writes
loop-word-init c = (omega arith, omega arith, refl, printed_none c.args.out.now c.args.at)

pub loop-word-preserved : goal.loop-word-preserved
loop-word-preserved c =
    let words = c.args.words.now in
    let turn = c.loop-word in
    let test = c.loop-word-test.true in (
      omega arith,
      omega (arith, c.put_write-end.ensures.place, line_short (get_or words turn.word-index 0) (omega arith)),
      c.put_write-end.auto.out ∙ turn.invariant.2,
      subst (λ (text : List ℕ). Printed c.args.out.now c.args.at text c.put_write-end.result c.put_write-end.new.out) (writes_on words turn.word-index test)
          (printed_then turn.invariant.3 (omega (arith, c.requires)) c.put_write-end.ensures),
    )

pub returns : goal.returns
returns c =
    let turn = c.loop-word in
    subst (λ (text : List ℕ). Printed c.args.out.now c.args.at text turn.end turn.out) (writes_all c.args.words.now turn.word-index c.loop-word-test.false) turn.invariant.3
