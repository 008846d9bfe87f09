-- `neighbour_lists::asking::quiet` meets its contract.
use mathlib.Core.Path.{sym, ◌∙◌}
use borrow.Author.Tests.{not-true}
use Rattle.neighbour_lists.specs.Lists.{precedes_slot, misordered_slots, rank_at, occupied_at}
use Rattle.neighbour_lists.proofs.PairLaws.{pairing_at, apart_quiet}
use Rattle.neighbour_lists.proofs.RowLaws.{settled_quiet}
use Rattle.neighbour_lists.proofs.asking.quiet.Goals as goal

pub returns-then-settled : goal.returns-then-settled
returns-then-settled c =
    let a = c.args in
    λ _. settled_quiet (precedes_slot a.mode.width a.mode.uncounted a.table.now) (misordered_slots a.mode.width a.mode.uncounted a.table.now) (rank_at a.mode.width a.table.now) (occupied_at a.mode.width a.table.now) a.near.now a.slot a.later a.rank (pairing_at a.mode.width a.mode.uncounted a.table.now) c.settled.ensures c.requires.rank_value c.if-settled.true

pub returns-else-settled : goal.returns-else-settled
returns-else-settled c =
    let a = c.args in
    λ e. apart_quiet a.mode.width a.mode.uncounted a.table.now a.near.now a.slot a.later (sym c.slots_overlap.ensures ∙ not-true _ e)
