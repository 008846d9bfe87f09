-- After all blocks comes the last turn.
use Rattle.std.specs.Prelude.{ℕ, replicate}
use Rattle.std.proofs.lemmas.List.{length-replicate}
use Rattle.script_transcripts.specs.Whole.{keeping}
use Rattle.tcam_script.specs.Streams.{known}
use Rattle.tcam_script.proofs.ReadsLaws.{all_ran, all_answered}
use Rattle.tcam_script.proofs.run.Goals as goal

pub returns-then-went-clause-ran : goal.returns-then-went-clause-ran
returns-then-went-clause-ran g c =
    let b = c.read_blocks-went in
    let t = c.last_turn-turn in
    let s = c.send-sent in
    let left = g.R.Read.remaining in
    let held = g.W.Write.contents in
    all_ran c.args.memory.now (replicate 257 0) (known (left c.args.reader.now) (held c.args.writer.now)) (length-replicate {A = ℕ} 257 0)
    (keeping b.new.memory b.new.line b.result.place) b.result (known (left b.new.reader) (held b.new.writer)) b.ensures c.if-went.true t.result t.new.memory _
    t.new.out t.ensures s.result (held s.new.writer) s.ensures.bytes_value.0 s.ensures.checksum_value s.ensures.wrote c.sent_well.result c.sent_well.ensures

pub returns-then-went-clause-answered : goal.returns-then-went-clause-answered
returns-then-went-clause-answered g c =
    all_answered _ _ _ _ _ _ (returns-then-went-clause-ran g c)
