-- `list_updates::bounded_at` meets its contract.
use mathlib.Core.Path.{sym, ◌∙◌}
use Rattle.list_updates.specs.UpdatesLaws.{apart_unbounded}
use Rattle.list_updates.proofs.bounded_at.Goals as goal

pub returns-else-may_overlap : goal.returns-else-may_overlap
returns-else-may_overlap c =
    let a = c.args in
    c.if-may_overlap.false ∙ sym (apart_unbounded a.mode.width a.table.now c.requires.0.0 a.other a.slot (sym c.may_overlap.ensures ∙ c.if-may_overlap.false) a.mode.uncounted a.up).1
