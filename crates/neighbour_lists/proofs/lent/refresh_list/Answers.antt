-- `neighbour_lists::lent::refresh_list` meets its contract.
-- The pass fills the front of a list of its own, as long as the lent one.
use mathlib.Core.Path.{ap, ◌∙◌}
use Prim.Native.Nat.{ℕ}
use native.Mathlib.Omega.{arith}
use lib.ListN.{take}
use Rattle.neighbour_lists.specs.Lists.{differing}
use Rattle.neighbour_lists.proofs.LentLaws.{listed_front, differing_stale}
use Rattle.neighbour_lists.proofs.lent.refresh_list.Goals as goal

pub returns : goal.returns
returns c =
    let listed = c.fill_near.ensures.listed in
    let near = c.fill_near.new.near in
    let size = c.requires.3 in record { list_after = c.store_list.ensures.list_after ∙ (ap (λ (n : ℕ). take n near) size ∙ listed_front c.args.mode.width c.args.mode.uncounted c.args.table.now near listed (omega arith)); value = c.store_list.ensures.value ∙ (ap (differing near c.args.list.now) size ∙ differing_stale c.args.mode.width c.args.mode.uncounted c.args.table.now near c.args.list.now listed) }
