-- `image_checks::put_pattern_by` meets its contract.
-- The words passed are stored one behind another.
use mathlib.Core.Path.{◌≡◌}
use Prim.Native.Nat.{◌*◌, ◌≤◌}
use lib.ListN.{length}
use Rattle.records.specs.Record.{listed}
use Rattle.image.specs.Bytes.{store}
use Rattle.image.specs.Format.{body_word}
use Rattle.image_checks.proofs.put_pattern_by.Given as goal

abbrev pub invariant-loop-word : goal.invariant-loop-word
invariant-loop-word l = (l.word ≤ 2 * l.width) × (length l.table ≡ length l.initial.table) × (l.table ≡ store l.initial.table l.first (listed l.word (body_word l.image l.at)))
