-- `planner::prefer` meets its contract.
-- The two returns are the two outcomes of the definition's test.
use mathlib.Core.Path.{sym}
use native.Mathlib.Omega.{arith}
use Rattle.planner.proofs.ChoiceLaws.{preferred_down, preferred_up}
use Rattle.planner.proofs.prefer.Goals as goal

pub returns-then-down-up : goal.returns-then-down-up
returns-then-down-up c = sym (preferred_down _ _ (omega arith))

pub returns : goal.returns
returns c = sym (preferred_up _ _ (omega arith))
