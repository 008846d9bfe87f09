-- `table_checks::match_among_by` meets its contract.
-- The search from the loop's slot on finds what the search from the first does.
use mathlib.Core.Path.{refl, sym, ◌∙◌}
use native.Mathlib.Omega.{arith}
use Rattle.search.specs.PartsLaws.{least_at_start, least_further, least_over}
use Rattle.table_checks.proofs.match_among_by.Goals as goal

pub loop-slot-init : goal.loop-slot-init
loop-slot-init c = (omega arith, refl)

pub slot_matches-requires : goal.slot_matches-requires
slot_matches-requires c = (c.requires.0, omega arith, c.requires.3)

pub returns-then-slot_matches : goal.returns-then-slot_matches
returns-then-slot_matches c = sym (c.loop-slot.invariant.1 ∙ least_at_start _ _ _ (omega arith) (sym c.slot_matches.ensures ∙ c.if-slot_matches.true))

pub loop-slot-preserved : goal.loop-slot-preserved
loop-slot-preserved c = (omega arith, c.loop-slot.invariant.1 ∙ least_further _ _ _ (omega arith) (sym c.slot_matches.ensures ∙ c.if-slot_matches.false))

pub returns : goal.returns
returns c = sym (c.loop-slot.invariant.1 ∙ (least_over _ _ _ (omega arith) ∙ omega arith))
