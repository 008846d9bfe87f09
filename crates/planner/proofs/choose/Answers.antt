-- `planner::choose` meets its contract.
-- Each range is cut to the slots there are, and the range going up is turned to positions.
use Rattle.planner.proofs.ChoiceLaws.{choice_found}
use Rattle.planner.proofs.choose.Goals as goal

pub returns : goal.returns
returns c =
    choice_found _ _ _ _ _ _ _ _ _ _ _ c.min-end.ensures c.saturating_sub-start.ensures
    c.saturating_sub-past.ensures c.best_between-best_down.ensures c.best_between-best_up.ensures c.prefer.ensures
