-- `neighbour_lists::asking::ask_pair` meets its contract.
use mathlib.Core.Path.{sym, ◌∙◌}
use borrow.Author.Tests.{not-true, not-false}
use Rattle.records.specs.Record.{slot_words}
use Rattle.neighbour_lists.proofs.PairLaws.{pair_apart, pair_rising, pair_falling}
use Rattle.neighbour_lists.proofs.RowLaws.{asked_yes, asked_no}
use Rattle.neighbour_lists.proofs.MarksLaws.{asked_free_yes, asked_free_no}
use Rattle.neighbour_lists.proofs.asking.ask_pair.Goals as goal

pub returns-then-not-rules_overlap : goal.returns-then-not-rules_overlap
returns-then-not-rules_overlap c =
    let a = c.args in
    let e = pair_apart a.mode.width a.mode.uncounted (slot_words a.mode.width a.table.now a.slot) (slot_words a.mode.width a.table.now a.later) c.rules_overlap.ensures (not-true _ c.if-not-rules_overlap.true-raw) in
    record { value = sym e.0; near_after = asked_no a.near.now a.slot a.later e.1; free_after = asked_free_no a.near.now a.free.now a.slot e.1 }

pub returns-then-earlier-rank : goal.returns-then-earlier-rank
returns-then-earlier-rank c =
    let a = c.args in
    let e = pair_rising a.mode.width a.mode.uncounted (slot_words a.mode.width a.table.now a.slot) (slot_words a.mode.width a.table.now a.later) c.rules_overlap.ensures (not-false _ c.if-not-rules_overlap.false-raw) (rw (c.slot_rank-earlier.ensures, c.requires.table_value.1) at c.if-earlier-rank.true) in
    record { value = sym e.0; near_after = asked_no a.near.now a.slot a.later e.1; free_after = asked_free_no a.near.now a.free.now a.slot e.1 }

pub returns : goal.returns
returns c =
    let a = c.args in
    let e = pair_falling a.mode.width a.mode.uncounted (slot_words a.mode.width a.table.now a.slot) (slot_words a.mode.width a.table.now a.later) c.rules_overlap.ensures (not-false _ c.if-not-rules_overlap.false-raw) (rw (c.slot_rank-earlier.ensures, c.requires.table_value.1) at c.if-earlier-rank.false) in
    record { value = sym e.0; near_after = c.keep_pair.ensures.near_after ∙ asked_yes a.near.now a.slot a.later e.1; free_after = c.keep_pair.ensures.free_after ∙ asked_free_yes a.near.now a.free.now a.slot e.1 }
