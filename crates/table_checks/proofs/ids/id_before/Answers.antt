-- `table_checks::ids::id_before` meets its contract.
-- No slot below the loop's has the slot's id.
use mathlib.Core.Path.{sym, ◌∙◌}
use native.Mathlib.Omega.{arith}
use Rattle.search.specs.SearchLaws.{none_start, none_more, any_some, any_none}
use Rattle.records.specs.Checks.{twice_at}
use Rattle.table_checks.proofs.ids.id_before.Goals as goal

pub loop-earlier-init : goal.loop-earlier-init
loop-earlier-init c = none_start _ _

pub same_id-requires : goal.same_id-requires
same_id-requires c = (c.requires.0, omega arith, c.requires.1)

pub returns-then-same_id : goal.returns-then-same_id
unfolding twice_at
returns-then-same_id c = sym (any_some _ _ _ (omega arith) (sym c.same_id.ensures ∙ c.if-same_id.true))

pub loop-earlier-preserved : goal.loop-earlier-preserved
loop-earlier-preserved c = none_more _ _ _ c.loop-earlier.invariant (omega arith) (sym c.same_id.ensures ∙ c.if-same_id.false)

pub returns : goal.returns
unfolding twice_at
returns c = sym (any_none _ _ (λ k h. c.loop-earlier.invariant.1 k (omega arith)))
