-- `script_lines::take_bytes` meets its contract.
-- The part up to the newline is held; each return is one of the ways in which taking bytes ends.
use mathlib.Core.Path.{◌∙◌, ap}
use Rattle.script_lines.specs.Held.{held_line}
use Rattle.script_lines.proofs.HeldLaws.{taken_nothing, held_nothing, part_within, part_taken, taken_line, taken_rest}
use Rattle.script_lines.proofs.take_bytes.Goals as goal

pub returns-then-block-from : goal.returns-then-block-from
returns-then-block-from c =
    let args = c.args in
    record { value = taken_nothing _ args.held args.block.now args.from c.if-block-from.true; line_after = held_nothing args.line.now args.held args.block.now args.from c.if-block-from.true }

pub slice_bounds-hold-end : goal.slice_bounds-hold-end
slice_bounds-hold-end c =
    let args = c.args in
    part_within args.block.now args.from c.part_end-end.result c.part_end-end.ensures c.if-block-from.false

pub returns-then-end-block : goal.returns-then-end-block
returns-then-end-block c =
    let args = c.args in record { value = taken_line args.block.now args.from c.part_end-end.result c.part_end-end.ensures _ args.held c.hold-count.result c.hold-count.ensures.value c.if-end-block.true; line_after = c.hold-count.ensures.line_after ∙ ap (held_line args.line.now args.held) (part_taken args.block.now args.from c.part_end-end.result c.part_end-end.ensures) }

pub returns : goal.returns
returns c =
    let args = c.args in record { value = taken_rest args.block.now args.from c.part_end-end.result c.part_end-end.ensures _ args.held c.hold-count.result c.hold-count.ensures.value c.if-end-block.false; line_after = c.hold-count.ensures.line_after ∙ ap (held_line args.line.now args.held) (part_taken args.block.now args.from c.part_end-end.result c.part_end-end.ensures) }
