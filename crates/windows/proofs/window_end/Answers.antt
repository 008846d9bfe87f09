-- `windows::window_end` meets its contract.
-- Each direction has its own number of the list.
use mathlib.Core.Path.{sym, ap, ◌∙◌}
use mathlib.Core.Bool.{Bool}
use Rattle.windows.specs.Windows.{listed_end}
use Rattle.windows.proofs.window_end.Goals as goal

pub returns-then-up : goal.returns-then-up
unfolding listed_end
returns-then-up c =
    let a = c.args in
    c.end_up.ensures ∙ ap (λ (up : Bool). listed_end a.near.now a.slots up a.position) (sym c.if-up.true)

pub returns : goal.returns
unfolding listed_end
returns c =
    let a = c.args in
    c.end_down.ensures ∙ ap (λ (up : Bool). listed_end a.near.now a.slots up a.position) (sym c.if-up.false)
