use Rattle.std.proofs.Common.{refl, arith}
use Rattle.script_transcripts.specs.Whole.{keeping, opening}
use Rattle.tcam_script.specs.Streams.{known}
use Rattle.tcam_script.proofs.ReadsLaws.{nothing_read, block_read}
use Rattle.tcam_script.proofs.read_blocks.Goals as goal

pub loop-went-init : goal.loop-went-init
loop-went-init g c =
    nothing_read (opening c.args.memory.now c.args.line.now) (known (g.R.Read.remaining c.args.reader.now) (g.W.Write.contents c.args.writer.now)) _ refl refl
    c.nothing_got.ensures c.nothing_sent.ensures

pub loop-went-preserved : goal.loop-went-preserved
loop-went-preserved g c =
    let turn = c.loop-went in
    let t = c.read_block-went in
    let left = g.R.Read.remaining in
    let held = g.W.Write.contents in
    block_read (opening c.args.memory.now c.args.line.now) (known (left c.args.reader.now) (held c.args.writer.now)) turn.turns turn.went turn.memory turn.line
    (known (left turn.reader) (held turn.writer)) turn.invariant c.loop-went-test.true (omega arith) t.new.buffer t.result
    (keeping t.new.memory t.new.line t.result.place) (known (left t.new.reader) (held t.new.writer)) t.ensures.reads_value t.ensures.checksum_value
    t.ensures.gave t.ensures.took_read
