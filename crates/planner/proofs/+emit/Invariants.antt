-- The moves left fall with each call.
use Rattle.planner.proofs.+emit.Given as goal

abbrev pub decreases-emit : goal.decreases-emit
decreases-emit l = l.left
