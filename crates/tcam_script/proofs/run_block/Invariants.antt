-- Each turn of the loop is one call of take_turn, where the call before left off, and its answer is handed to the output.
use Rattle.std.specs.Prelude.{◌≡◌, List, ℕ, ◌-◌, length}
use Rattle.script_transcripts.specs.Whole.{keeping, Called}
use Rattle.tcam_script.specs.Reads.{HandedOver}
use Rattle.tcam_script.proofs.run_block.Given as goal

abbrev pub invariant-loop-well : goal.invariant-loop-well
invariant-loop-well g l =
    (l.well ≡ l.sent.well) × (bytes : List ℕ) × HandedOver l.initial.sent (g.W.Write.contents l.initial.writer) bytes l.sent (g.W.Write.contents l.writer)
    × Called l.block (keeping l.initial.memory l.initial.line l.initial.place) bytes (keeping l.memory l.line l.place) l.from

abbrev pub decreases-loop-well : goal.decreases-loop-well
decreases-loop-well g l = length l.block - l.from
