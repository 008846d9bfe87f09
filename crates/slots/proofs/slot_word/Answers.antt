-- `slots::slot_word` meets its contract.
-- The product of slot and record words has two variables: the law on a slot's place in the table bounds it.
use native.Mathlib.Omega.{arith}
use Rattle.records.proofs.Laws.{slot_within}
use Rattle.slots.proofs.slot_word.Goals as goal

pub overflow_mul-result : goal.overflow_mul-result
overflow_mul-result c = rw c.record_words.ensures (omega (arith, slot_within c.args.width c.args.table.now c.args.slot c.requires.1))

pub overflow_add-result : goal.overflow_add-result
overflow_add-result c = rw c.record_words.ensures (omega (arith, slot_within c.args.width c.args.table.now c.args.slot c.requires.1))

pub offset_bounds-table-slot : goal.offset_bounds-table-slot
offset_bounds-table-slot c = rw c.record_words.ensures (omega (arith, slot_within c.args.width c.args.table.now c.args.slot c.requires.1))

pub bounds-table-slot : goal.bounds-table-slot
bounds-table-slot c = rw c.record_words.ensures (omega (arith, slot_within c.args.width c.args.table.now c.args.slot c.requires.1))

pub returns : goal.returns
returns c = rw c.record_words.ensures
