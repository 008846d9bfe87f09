-- `script_text::part_end` meets its contract.
-- The loop's place and the rest of the part after it always make the same end.
use mathlib.Core.Path.{◌≡◌}
use Prim.Native.Nat.{◌+◌}
use lib.ListN.{length, drop}
use Rattle.script_text.specs.Parts.{first_part}
use Rattle.script_text.proofs.part_end.Given as goal

abbrev pub invariant-loop-at : goal.invariant-loop-at
invariant-loop-at l = l.at + length (first_part l.separator (drop l.at l.text)) ≡ l.from + length (first_part l.separator (drop l.from l.text))
