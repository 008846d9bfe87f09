-- `loads::fill` meets its contract.
-- The records of the entries passed stand in their slots.
use mathlib.Core.Path.{◌≡◌}
use Prim.Native.Nat.{◌≤◌}
use lib.ListN.{length}
use Rattle.image.specs.Checks.{rules_put}
use Rattle.loads.proofs.fill.Given as goal

abbrev pub invariant-loop-entry : goal.invariant-loop-entry
invariant-loop-entry l = (l.entry ≤ l.rules) × (length l.table ≡ length l.initial.table) × (l.table ≡ rules_put l.width l.image l.rules l.initial.table l.entry)
