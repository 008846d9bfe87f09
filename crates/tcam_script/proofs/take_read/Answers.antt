-- A failure and the end take no bytes.
use Rattle.std.proofs.Common.{◌≡◌, refl, sym, ap, ◌∙◌, ℕ, Some, arith}
use Rattle.script_transcripts.specs.Whole.{keeping}
use Rattle.tcam_script.proofs.ReadsLaws.{read_failed, read_end, read_some}
use Rattle.tcam_script.proofs.take_read.Goals as goal

pub returns-in-None : goal.returns-in-None
returns-in-None g c =
    let a = c.args in
    (refl, read_failed a.got.number a.buffer.now (keeping a.memory.now a.line.now a.place) a.sent (g.W.Write.contents a.writer.now) _ (sym c.in-None.ensures) refl refl refl)

pub returns-in-Some-eq0 : goal.returns-in-Some-eq0
returns-in-Some-eq0 g c =
    let a = c.args in
    let none : c.in-Some-eq0.field-0 ≡ 0 = omega arith in
    (refl, read_end a.got.number a.buffer.now (keeping a.memory.now a.line.now a.place) a.sent (g.W.Write.contents a.writer.now) _ (sym c.in-Some-eq0.ensures ∙ ap (λ (k : ℕ). Some k) none) refl refl refl)

pub returns-in-Some : goal.returns-in-Some
returns-in-Some g c =
    let a = c.args in
    let b = c.run_block-taken in
    let contents = g.W.Write.contents in (
      refl,
      read_some a.got.number c.in-Some.number a.buffer.now (keeping a.memory.now a.line.now a.place) a.sent (contents a.writer.now) _ (contents b.new.writer)
          (keeping b.new.memory b.new.line b.result.place) c.min-count.result (sym c.in-Some.ensures) c.in-Some.number-test.1 c.min-count.ensures refl
          c.sent_well-well.ensures b.ensures,
    )
