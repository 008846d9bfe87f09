-- `writes::stands_elsewhere` meets its contract.
-- No slot below the loop's, but for the slot itself, has the slot's id.
use mathlib.Core.Path.{sym, ◌∙◌}
use native.Mathlib.Omega.{arith}
use Rattle.search.specs.SearchLaws.{none_start, none_more, any_some, any_none}
use Rattle.records.specs.Writes.{stands_elsewhere}
use Rattle.writes.proofs.stands_elsewhere.Goals as goal

pub loop-other-init : goal.loop-other-init
loop-other-init c = none_start _ _

pub held_at-requires : goal.held_at-requires
held_at-requires c = let p = c.requires in (p.0, p.1, omega (arith, c.slot_count-slots.ensures))

pub returns-then-held_at : goal.returns-then-held_at
unfolding stands_elsewhere
returns-then-held_at c = sym (any_some _ _ _ (omega arith) (sym c.held_at.ensures ∙ c.if-held_at.true))

pub loop-other-preserved : goal.loop-other-preserved
loop-other-preserved c = none_more _ _ _ c.loop-other.invariant (omega arith) (sym c.held_at.ensures ∙ c.if-held_at.false)

pub returns : goal.returns
unfolding stands_elsewhere
returns c = sym (any_none _ _ (λ k h. c.loop-other.invariant.1 k (omega arith)))
