-- `table_checks::check_order` meets its contract.
-- The pass gives the lowest slot out of order, or the number of slots.
use mathlib.Core.Path.{sym}
use native.Mathlib.Omega.{arith}
use borrow.Author.Tests.{lt-ltb, le-ltb}
use Rattle.records.specs.Order.{slots}
use Rattle.records.specs.Checks.{check_order, lowest}
use Rattle.table_checks.proofs.check_order.Goals as goal

pub returns-then-first-slot_count : goal.returns-then-first-slot_count
unfolding check_order lowest
returns-then-first-slot_count c =
    let t = c.args.table.now in
    let w = c.args.mode.width in
    record { value = rw (sym c.fill_near-first.ensures.value, lt-ltb c.fill_near-first.result (slots w t) (omega arith)); listed = c.fill_near-first.ensures.listed }

pub returns : goal.returns
unfolding check_order lowest
returns c =
    let t = c.args.table.now in
    let w = c.args.mode.width in
    record { value = rw (sym c.fill_near-first.ensures.value, le-ltb c.fill_near-first.result (slots w t) (omega arith)); listed = c.fill_near-first.ensures.listed }
