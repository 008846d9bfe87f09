-- `script_lines::hold` meets its contract.
-- After each turn one byte more of the piece stands behind the bytes held.
use mathlib.Core.Path.{◌≡◌}
use Prim.Native.Nat.{◌≤◌}
use lib.ListN.{length}
use lib.Seq.{paste}
use Rattle.script_lines.specs.Held.{room}
use Rattle.script_lines.proofs.hold.Given as goal

abbrev pub invariant-loop-at : goal.invariant-loop-at
invariant-loop-at l = (l.at ≤ l.count) × (l.count ≡ room (length l.initial.line) l.held (length l.piece)) × (length l.line ≡ length l.initial.line) × (l.line ≡ paste l.initial.line l.held l.piece l.at)
