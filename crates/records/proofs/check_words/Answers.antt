-- `records::check_words` meets its contract.
-- The two numbers are compared as the definition compares them.
use borrow.Author.Tests.{eq-eqb, ne_eqb}
use Rattle.records.specs.Widths.{check_words}
use Rattle.records.proofs.check_words.Goals as goal

pub returns-then-words-needed : goal.returns-then-words-needed
unfolding check_words
returns-then-words-needed c = rw (eq-eqb _ _ c.if-words-needed.true)

pub returns : goal.returns
unfolding check_words
returns c = rw (ne_eqb _ _ c.if-words-needed.false)
