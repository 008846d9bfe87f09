-- `list_updates::bounded_by` meets its contract.
use mathlib.Core.Path.{sym, ap, ◌∙◌}
use mathlib.Core.Bool.{Bool}
use Rattle.list_updates.specs.Updates.{bounded_by}
use Rattle.list_updates.proofs.bounded_by.Goals as goal

pub returns-then-up : goal.returns-then-up
unfolding bounded_by
returns-then-up c =
    let a = c.args in
    c.rule_precedes.ensures ∙ ap (λ (up : Bool). bounded_by a.mode.width a.mode.uncounted a.table.now up a.slot a.other) (sym c.if-up.true)

pub returns : goal.returns
unfolding bounded_by
returns c =
    let a = c.args in
    c.rule_precedes-2.ensures ∙ ap (λ (up : Bool). bounded_by a.mode.width a.mode.uncounted a.table.now up a.slot a.other) (sym c.if-up.false)
