-- `saves::count_rules` meets its contract.
-- As many rules are counted as stand in the slots passed.
use mathlib.Core.Path.{◌≡◌}
use Prim.Native.Nat.{◌≤◌}
use lib.ListN.{length}
use Rattle.image.specs.Indices.{indices}
use Rattle.image.specs.Format.{holds}
use Rattle.saves.proofs.count_rules.Given as goal

abbrev pub invariant-loop-slot : goal.invariant-loop-slot
invariant-loop-slot l = (l.slot ≤ l.slots) × (l.count ≡ length (indices (holds l.width l.table) l.slot))
