-- `saves::put_rules` meets its contract.
-- The rules of the slots passed are stored, as many as were counted.
use mathlib.Core.Path.{◌≡◌}
use Prim.Native.Nat.{◌≤◌}
use lib.ListN.{length}
use Rattle.image.specs.Indices.{indices}
use Rattle.image.specs.Format.{holds, stored}
use Rattle.saves.proofs.put_rules.Given as goal

abbrev pub invariant-loop-slot : goal.invariant-loop-slot
invariant-loop-slot l = (l.slot ≤ l.slots) × (l.rule ≡ length (indices (holds l.width l.table) l.slot)) × (length l.image ≡ length l.initial.image) × (l.image ≡ stored l.width l.table l.initial.image l.rule)
