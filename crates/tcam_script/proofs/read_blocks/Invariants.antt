-- Each turn of the loop reads one block more, until one of no bytes.
use Rattle.script_transcripts.specs.Whole.{keeping, opening}
use Rattle.tcam_script.specs.Streams.{known}
use Rattle.tcam_script.proofs.ReadsLaws.{ReadSome}
use Rattle.tcam_script.proofs.read_blocks.Given as goal

abbrev pub invariant-loop-went : goal.invariant-loop-went
invariant-loop-went g l =
    ReadSome (opening l.initial.memory l.initial.line) (known (g.R.Read.remaining l.initial.reader) (g.W.Write.contents l.initial.writer)) l.turns l.went
    (keeping l.memory l.line l.went.place) (known (g.R.Read.remaining l.reader) (g.W.Write.contents l.writer))

abbrev pub decreases-loop-went : goal.decreases-loop-went
decreases-loop-went g l = l.turns
