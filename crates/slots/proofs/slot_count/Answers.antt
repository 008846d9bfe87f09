-- `slots::slot_count` meets its contract.
-- The divisor is a record's words.
use mathlib.Core.Path.{ap}
use Prim.Native.Nat.{ℕ, ◌/◌}
use lib.ListN.{length}
use Rattle.slots.proofs.slot_count.Goals as goal

pub returns : goal.returns
returns c = ap (λ (n : ℕ). length c.args.table.now / n) c.record_words.ensures
