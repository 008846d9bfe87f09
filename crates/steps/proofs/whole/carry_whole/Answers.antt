-- `steps::whole::carry_whole` meets its contract.
-- The table and the writes done are those after the calls made.
use mathlib.Core.Path.{◌≡◌, refl, ◌∙◌, subst}
use mathlib.Core.Bool.{Bool}
use lib.Dec.{ltb}
use lib.ListN.{length}
use borrow.Author.Tests.{ltb-true}
use borrow.Author.Rules.{rules}
use Rattle.search.specs.SearchLaws.{and_left, and_right}
use Rattle.records.specs.Editions.{under13}
use Rattle.carrying.proofs.UntilLaws.{Under, under_start, under_next, under_less, under_end}
use Rattle.steps.proofs.whole.carry_whole.Goals as goal

pub loop-wrote-init : goal.loop-wrote-init
loop-wrote-init c = (refl, under_start 2 _ _ _ _)

pub advance-next-requires : goal.advance-next-requires
advance-next-requires c = tt

pub loop-wrote-smaller : goal.loop-wrote-smaller
loop-wrote-smaller c =
    let a = c.args in
    let s = c.loop-wrote in
    under_less 2 a.table.now a.plan.now (under13 a.rule) a.total s.table s.done c.advance-next.result s.wrote c.loop-wrote-test.true c.advance-next.ensures.value

pub loop-wrote-preserved : goal.loop-wrote-preserved
loop-wrote-preserved c =
    let a = c.args in
    let s = c.loop-wrote in
    let kept : length c.advance-next.new.table ≡ length s.table = search rules in
    let going = subst (λ (b : Bool). Under 2 a.table.now a.plan.now (under13 a.rule) a.total s.table s.done b) (and_left s.wrote (ltb s.done a.total) c.loop-wrote-test.true) s.invariant.1 in
    (kept ∙ s.invariant.0, under_next 2 a.table.now a.plan.now (under13 a.rule) a.total going (ltb-true s.done a.total (and_right s.wrote (ltb s.done a.total) c.loop-wrote-test.true)) c.advance-next.ensures.value c.advance-next.ensures.table_after)

pub step_rule-requires : goal.step_rule-requires
step_rule-requires c = tt

pub returns : goal.returns
returns c =
    let a = c.args in
    let s = c.loop-wrote in
    let ends = under_end 2 a.table.now a.plan.now (under13 a.rule) a.total s.invariant.1 c.loop-wrote-test.false in
    record { result_value = c.step_rule.ensures.result_value ∙ ends.0; table_after = c.step_rule.ensures.table_after ∙ ends.1 }
