-- `script_answers::writes::put_writes` meets its contract.
-- After each turn the line of one word more is printed, and no line has more than 14 bytes.
use mathlib.Core.Path.{◌≡◌}
use Prim.Native.Nat.{◌+◌, ◌*◌, ◌≤◌}
use lib.ListN.{length, take}
use Rattle.script_printing.specs.Printing.{Printed}
use Rattle.script_answers.specs.Answers.{printed_writes}
use Rattle.script_answers.proofs.writes.put_writes.Given as goal

abbrev pub invariant-loop-word : goal.invariant-loop-word
invariant-loop-word l = (l.word-index ≤ length l.words) × (l.end ≤ l.at + 14 * l.word-index) × (length l.out ≡ length l.initial.out) × Printed l.initial.out l.at (printed_writes (take l.word-index l.words)) l.end l.out
