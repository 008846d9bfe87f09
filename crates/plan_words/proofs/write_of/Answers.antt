-- `plan_words::write_of` meets its contract.
-- The word's upper half tells which write it is.
use Rattle.plan_words.specs.PlanWordsLaws.{word_puts, word_clears, word_copies}
use Rattle.plan_words.proofs.write_of.Goals as goal

pub returns-then-from-eq-PUT_IN : goal.returns-then-from-eq-PUT_IN
returns-then-from-eq-PUT_IN c = word_puts c.args.word c.if-from-eq-PUT_IN.true

pub returns-then-from-eq-EMPTYING : goal.returns-then-from-eq-EMPTYING
returns-then-from-eq-EMPTYING c = word_clears c.args.word c.if-from-eq-EMPTYING.true

pub returns : goal.returns
returns c = word_copies c.args.word c.if-from-eq-PUT_IN.false c.if-from-eq-EMPTYING.false
