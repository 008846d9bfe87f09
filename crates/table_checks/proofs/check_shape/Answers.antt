-- `table_checks::check_shape` meets its contract.
-- The test is the definition's.
use Rattle.records.specs.Checks.{check_shape, shaped}
use Rattle.table_checks.proofs.check_shape.Goals as goal

pub returns-then-table-record_words : goal.returns-then-table-record_words
unfolding check_shape shaped
returns-then-table-record_words c = rw (rw (c.record_words.ensures, c.slot_count-slots.ensures) at c.if-table-record_words.true)

pub returns : goal.returns
unfolding check_shape shaped
returns c = rw (rw (c.record_words.ensures, c.slot_count-slots.ensures) at c.if-table-record_words.false)
