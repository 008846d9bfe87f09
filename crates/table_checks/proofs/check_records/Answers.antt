-- `table_checks::check_records` meets its contract.
-- The lowest slot that is neither empty nor sound is read, or the number of slots.
use mathlib.Core.Path.{sym}
use native.Mathlib.Omega.{arith}
use borrow.Author.Tests.{lt-ltb, le-ltb}
use Rattle.records.specs.Order.{slots}
use Rattle.records.specs.Checks.{check_records, lowest}
use Rattle.table_checks.proofs.check_records.Goals as goal

pub returns-then-slot-slot_count : goal.returns-then-slot-slot_count
unfolding check_records lowest
returns-then-slot-slot_count c =
    let called = c.first_unsound-slot in
    rw (sym called.ensures, lt-ltb called.result (slots c.args.width c.args.table.now) (omega arith))

pub returns : goal.returns
unfolding check_records lowest
returns c =
    let called = c.first_unsound-slot in
    rw (sym called.ensures, le-ltb called.result (slots c.args.width c.args.table.now) (omega arith))
