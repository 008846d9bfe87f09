-- `steps::whole::carry_whole` meets its contract.
-- The table and the writes done are those after the calls made.
use Prim.Native.Nat.{◌+◌, ◌-◌}
use mathlib.Core.Path.{◌≡◌}
use mathlib.Core.Bool.{cond}
use lib.ListN.{length}
use Rattle.records.specs.Editions.{under13}
use Rattle.carrying.proofs.UntilLaws.{Under}
use Rattle.steps.proofs.whole.carry_whole.Given as goal

abbrev pub invariant-loop-wrote : goal.invariant-loop-wrote
invariant-loop-wrote l = (length l.table ≡ length l.initial.table) × Under 2 l.initial.table l.plan (under13 l.rule) l.total l.table l.done l.wrote

abbrev pub decreases-loop-wrote : goal.decreases-loop-wrote
decreases-loop-wrote l = cond l.wrote 1 0 + (l.total - l.done)
