-- `list_updates::rule_precedes` meets its contract.
-- Ranks first; then whether the rules overlap and are compared.
use mathlib.Core.Path.{◌∙◌}
use borrow.Author.Tests.{le-ltb}
use Rattle.records.specs.Record.{slot_words}
use Rattle.records.specs.Order.{precedes}
use Rattle.records.proofs.OrderLaws.{pair_ranked}
use Rattle.list_updates.specs.UpdatesLaws.{precedes_told}
use Rattle.list_updates.proofs.rule_precedes.Goals as goal

pub returns-else-slot_rank : goal.returns-else-slot_rank
unfolding precedes
returns-else-slot_rank c =
    let a = c.args in
    le-ltb _ _ c.if-slot_rank.false
    ∙ rw (← c.slot_rank-2.ensures, ← c.slot_rank.ensures)
    (pair_ranked a.mode.width a.mode.uncounted (slot_words a.mode.width a.table.now a.slot) (slot_words a.mode.width a.table.now a.other) (le-ltb _ _ c.if-slot_rank.false))

pub returns-then-slot_rank : goal.returns-then-slot_rank
returns-then-slot_rank c =
    let a = c.args in
    precedes_told a.mode.width a.mode.uncounted (slot_words a.mode.width a.table.now a.slot) (slot_words a.mode.width a.table.now a.other) c.rules_overlap.ensures
    (rw (← c.slot_rank-2.ensures, ← c.slot_rank.ensures) c.if-slot_rank.true)
