-- `planner::best_between` meets its contract.
-- The first position of least cost is searched for once that cost is known.
use Rattle.planner.proofs.ChoiceLaws.{best_found}
use Rattle.planner.proofs.best_between.Goals as goal

pub returns : goal.returns
returns c = best_found _ _ _ _ _ _ c.least_between-cost.ensures c.first_of_cost-position.ensures
