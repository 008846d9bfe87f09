-- `costs::position_cost` meets its contract.
-- An end of 0 says that the position is empty; else the cost is one more than the least in its window, and fits 16 bits since that is at most the slots.
use mathlib.Core.Path.{sym}
use native.Mathlib.Omega.{arith}
use Rattle.costs.proofs.CostsLaws.{cost_vacant, cost_found, cost_to_last, minimum_high}
use Rattle.costs.proofs.position_cost.Goals as goal

pub returns-then-end-eq0 : goal.returns-then-end-eq0
returns-then-end-eq0 c = sym (cost_vacant _ _ _ _ c.if-end-eq0.true)

pub overflow_add-result : goal.overflow_add-result
overflow_add-result c = omega (arith, minimum_high _ _ _ _ _ c.requires.beyond_value)

pub returns-then-end-slots : goal.returns-then-end-slots
returns-then-end-slots c = cost_to_last _ _ _ _ _ c.if-end-eq0.false c.if-end-slots.true c.requires.beyond_value

pub least_in_window-least-requires : goal.least_in_window-least-requires
least_in_window-least-requires c =
    omega (arith, c.requires.sized.within c.args.position (omega arith))

pub overflow_add-result-2 : goal.overflow_add-result-2
overflow_add-result-2 c = omega (arith, minimum_high _ _ _ _ _ c.least_in_window-least.ensures)

pub overflow_cast-result : goal.overflow_cast-result
overflow_cast-result c = omega (arith, minimum_high _ _ _ _ _ c.least_in_window-least.ensures)

pub returns : goal.returns
returns c = cost_found _ _ _ _ _ c.if-end-eq0.false c.least_in_window-least.ensures
