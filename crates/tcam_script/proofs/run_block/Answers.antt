use Rattle.std.specs.Prelude.{[], ◌++◌, length, take}
use Rattle.std.proofs.Common.{sym, ◌∙◌, arith}
use Rattle.script_turns.specs.Reading.{reading_of, turn_of}
use Rattle.script_transcripts.specs.Whole.{keeping, Called}
use Rattle.script_transcripts.proofs.WholeLaws.{next_within}
use Rattle.tcam_script.proofs.ReadsLaws.{nothing_more, handed_on, answer_handed}
use Rattle.tcam_script.proofs.run_block.Goals as goal

pub loop-well-init : goal.loop-well-init
loop-well-init g c = (c.sent_well-well.ensures, [], nothing_more c.args.before (g.W.Write.contents c.args.writer.now) (omega arith), Called.begin)

pub loop-well-smaller : goal.loop-well-smaller
loop-well-smaller g c =
    let turn = c.loop-well in
    let m = next_within (length turn.line) turn.place.held c.args.block.now turn.from c.if-from-block.true in
    let on = c.take_turn-turn.ensures.on in
    omega (arith, m.0, m.1, on)

pub loop-well-preserved : goal.loop-well-preserved
loop-well-preserved g c =
    let turn = c.loop-well in
    let took = c.take_turn-turn in
    let sent = c.send-sent in
    let contents = g.W.Write.contents in (
      c.sent_well-well-in-loop-well.ensures,
      turn.invariant.1 ++ take took.result.length took.new.out,
      handed_on (sym turn.invariant.0 ∙ c.loop-well-test.true) turn.invariant.2
          (answer_handed {text = (turn_of (reading_of turn.memory turn.line turn.place) c.args.block.now turn.from).printed} took.ensures.shown turn.sent (contents turn.writer) sent.result (contents sent.new.writer) sent.ensures.bytes_value.0
          sent.ensures.checksum_value sent.ensures.wrote),
      Called.turned turn.invariant.1 (keeping turn.memory turn.line turn.place) turn.from turn.invariant.3 c.if-from-block.true took.result took.new.memory
          took.new.line turn.out took.new.out took.ensures,
    )
