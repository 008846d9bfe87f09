-- `slots::given::rank_record` meets its contract.
-- The rule's words, and then the rank for the last of them.
use mathlib.Core.Path.{ap₂, ◌∙◌}
use mathlib.Core.List.{List}
use Prim.Native.Nat.{ℕ, ◌+◌, ◌*◌}
use lib.ListN.{set}
use Rattle.records.proofs.WidthsLaws.{lent_slot}
use Rattle.records.proofs.EditionsLaws.{lent_entry}
use Rattle.slots.proofs.given.rank_record.Goals as goal

pub read_record-requires : goal.read_record-requires
read_record-requires c = (c.requires.0, lent_slot _ c.args.rule.now c.requires.1, c.requires.2)

pub returns : goal.returns
returns c =
    let w = c.args.width in
    ap₂ (λ (l : List ℕ) (r : ℕ). set l (2 * w + 1) r)
    (c.read_record.ensures ∙ lent_entry w c.args.rule.now c.requires.1)
    c.given_rank.ensures
