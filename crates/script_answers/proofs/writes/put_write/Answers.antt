-- `script_answers::writes::put_write` meets its contract.
-- Each kind of write has its line, of at most 14 bytes.
use mathlib.Core.Path.{◌≡◌, sym, subst}
use Prim.Native.Nat.{ℕ, ◌≤◌, ◌<◌}
use native.Mathlib.Omega.{arith}
use lib.ListN.{length}
use Rattle.layout.specs.Write.{Write}
use Rattle.plan_words.specs.PlanWords.{write_of}
use Rattle.plan_words.specs.PlanWordsLaws.{write_taken}
use Rattle.script_answers.specs.Answers.{printed_write}
use Rattle.script_answers.proofs.RoomLaws.{line_short}
use Rattle.script_answers.proofs.writes.put_write.Goals as goal

short : (word : ℕ) → word < 4294967296 → {x : Write} → x ≡ write_of word → length (printed_write x) ≤ 14
short word h e = subst (λ (y : Write). length (printed_write y) ≤ 14) (sym e) (line_short word h)

pub line_of_two-requires : goal.line_of_two-requires
line_of_two-requires c =
    omega (arith, short c.args.word (omega arith) (write_taken c.write_of.ensures c.in-Copy.is), c.requires)

pub put_in_line-requires : goal.put_in_line-requires
put_in_line-requires c =
    omega (arith, short c.args.word (omega arith) (write_taken c.write_of.ensures c.in-PutIn.is), c.requires)

pub line_of_one-requires : goal.line_of_one-requires
line_of_one-requires c =
    omega (arith, short c.args.word (omega arith) (write_taken c.write_of.ensures c.in-Clear.is), c.requires)

pub returns-in-Copy : goal.returns-in-Copy
returns-in-Copy c = rw (← write_taken c.write_of.ensures c.in-Copy.is) c.line_of_two.ensures

pub returns-in-PutIn : goal.returns-in-PutIn
returns-in-PutIn c = rw (← write_taken c.write_of.ensures c.in-PutIn.is) c.put_in_line.ensures

pub returns-in-Clear : goal.returns-in-Clear
returns-in-Clear c = rw (← write_taken c.write_of.ensures c.in-Clear.is) c.line_of_one.ensures
