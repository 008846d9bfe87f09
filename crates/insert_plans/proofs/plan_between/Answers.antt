-- `insert_plans::plan_between` meets its contract.
-- Each working array has room for 1,024 slots.
use native.Mathlib.Omega.{arith}
use Rattle.insert_plans.proofs.plan_between.Goals as goal

pub plan_with-requires : goal.plan_with-requires
plan_with-requires c = record { width = c.requires.width; dependant_bound = c.requires.dependant_bound; most_slots_in_bounds = (omega arith, omega arith, omega arith) }
