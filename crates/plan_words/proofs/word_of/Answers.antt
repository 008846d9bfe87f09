-- `plan_words::word_of` meets its contract.
-- Each case of a write is joined from its halves.
use mathlib.Core.Path.{sym, ap, subst, ◌∙◌}
use native.Mathlib.Omega.{arith}
use Rattle.plan_words.specs.PlanWords.{emptying, write_word, write_meant, SlotsBelow}
use Rattle.plan_words.specs.declared.PlanWrite.{PlanWrite}
use Rattle.plan_words.proofs.word_of.Goals as goal

pub join-requires : goal.join-requires
join-requires c =
    let below = subst (λ (x : PlanWrite). SlotsBelow emptying (write_meant x)) c.in-Copy.is c.requires in
    (omega (arith, below.0), omega (arith, below.1))

pub join-requires-in-PutIn : goal.join-requires-in-PutIn
join-requires-in-PutIn c =
    let below = subst (λ (x : PlanWrite). SlotsBelow emptying (write_meant x)) c.in-PutIn.is c.requires in
    (omega arith, omega (arith, below))

pub join-requires-in-Clear : goal.join-requires-in-Clear
join-requires-in-Clear c =
    let below = subst (λ (x : PlanWrite). SlotsBelow emptying (write_meant x)) c.in-Clear.is c.requires in
    (omega arith, omega (arith, below))

pub returns-in-Copy : goal.returns-in-Copy
returns-in-Copy c = c.join.ensures ∙ ap (λ (x : PlanWrite). write_word (write_meant x)) (sym c.in-Copy.is)

pub returns-in-PutIn : goal.returns-in-PutIn
returns-in-PutIn c = c.join-in-PutIn.ensures ∙ ap (λ (x : PlanWrite). write_word (write_meant x)) (sym c.in-PutIn.is)

pub returns-in-Clear : goal.returns-in-Clear
returns-in-Clear c = c.join-in-Clear.ensures ∙ ap (λ (x : PlanWrite). write_word (write_meant x)) (sym c.in-Clear.is)
