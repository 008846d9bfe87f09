-- One write more adds the bytes that it took to those before.
use Rattle.std.proofs.Common.{◌≡◌, ◌∙◌, ◌++◌, arith, ap, sym, subst, List, ℕ, ◌-◌, length, length-drop, take, drop, take_all}
use Rattle.std.proofs.Math.Seq.{take-add}
use Rattle.std.proofs.KnownBytes.{Appends-trans}
use Rattle.std.specs.Io.KnownBytes.{Appends}
use Rattle.tcam_script.proofs.console.write_bytes.Goals as goal

pub loop-done-preserved : goal.loop-done-preserved
loop-done-preserved g c =
    let contents = g.W.Write.contents in
    let turn = c.loop-done in
    let bytes = c.args.bytes.now in
    let more = c.in-Ok.count in
    let rest = take (length bytes - turn.done) (drop turn.done bytes) in
    let all : rest ≡ drop turn.done bytes = take_all (length bytes - turn.done) (drop turn.done bytes) (let n = length-drop turn.done bytes in omega (arith, n)) in
    let added = Appends-trans (contents c.args.writer.now) (contents turn.writer) (contents c.write.new.self) (take turn.done bytes) (take more rest)
    turn.invariant.1 c.in-Ok.ensures.bytes in (
      omega (arith, c.in-Ok.ensures.bound),
      subst (λ (text : List ℕ). Appends (contents c.args.writer.now) (contents c.write.new.self) text)
          (ap (λ (x : List ℕ). take turn.done bytes ++ take more x) all ∙ sym (take-add turn.done more bytes)) added,
    )
