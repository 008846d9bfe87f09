-- `writes::word_fits` meets its contract.
-- Three tests, in turn.
use mathlib.Core.Path.{ap, ◌∙◌}
use Prim.Native.Nat.{ℕ}
use Rattle.layout.specs.Write.{put}
use Rattle.plan_words.specs.PlanWords.{write_of}
use Rattle.records.specs.Editions.{lent_rule, ranked}
use Rattle.records.specs.Writes.{fits_write}
use Rattle.carrying.proofs.StepsLaws.{fits_stopped, fits_settled, fits_roomed}
use Rattle.writes.proofs.word_fits.Goals as goal

pub returns-else-takes_rule : goal.returns-else-takes_rule
returns-else-takes_rule c =
    let a = c.args in
    let rule = ranked a.width (lent_rule a.width a.edition a.rule.now) in
    c.if-takes_rule.false ∙ fits_stopped a.width a.table.now rule (write_of a.word) c.takes_rule.ensures c.if-takes_rule.false

pub returns-then-needs_no_room : goal.returns-then-needs_no_room
returns-then-needs_no_room c =
    let a = c.args in
    let rule = ranked a.width (lent_rule a.width a.edition a.rule.now) in
    c.if-needs_no_room.true ∙ fits_settled a.width a.table.now rule (write_of a.word) c.takes_rule.ensures c.if-takes_rule.true c.needs_no_room.ensures c.if-needs_no_room.true

pub returns-else-needs_no_room : goal.returns-else-needs_no_room
returns-else-needs_no_room c =
    let a = c.args in
    let rule = ranked a.width (lent_rule a.width a.edition a.rule.now) in
    fits_roomed a.width a.table.now rule (write_of a.word) c.takes_rule.ensures c.if-takes_rule.true c.needs_no_room.ensures c.if-needs_no_room.false
    (c.put_fits.ensures ∙ ap (λ (to : ℕ). fits_write a.width a.table.now (put to)) c.written_slot.ensures)
