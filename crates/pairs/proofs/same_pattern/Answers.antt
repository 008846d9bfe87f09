-- `pairs::same_pattern` meets its contract.
-- The words below the loop's are the same.
use mathlib.Core.Path.{sym, ap₂, ◌∙◌}
use native.Mathlib.Omega.{arith}
use lib.Dec.{eqb}
use borrow.Author.Tests.{eq-eqb, ne_eqb}
use Rattle.search.specs.SearchLaws.{all_start, all_more, all_end, all_out}
use Rattle.records.specs.Order.{same_pattern}
use Rattle.pairs.proofs.same_pattern.Goals as goal

pub loop-place-init : goal.loop-place-init
loop-place-init c = all_start _ _

pub returns-then-slot_word : goal.returns-then-slot_word
unfolding same_pattern
returns-then-slot_word c = all_out _ _ _ (omega arith) (sym (ap₂ eqb c.slot_word.ensures c.slot_word-in-loop-place.ensures) ∙ ne_eqb _ _ c.if-slot_word.true)

pub loop-place-preserved : goal.loop-place-preserved
loop-place-preserved c = all_more _ _ _ c.loop-place.invariant (omega arith) (sym (ap₂ eqb c.slot_word.ensures c.slot_word-in-loop-place.ensures) ∙ eq-eqb _ _ c.if-slot_word.false)

pub returns : goal.returns
unfolding same_pattern
returns c = all_end _ _ _ c.loop-place.invariant (omega arith)
