-- `list_updates::update_list` meets its contract.
-- Each direction leaves the numbers of the other as they were.
use mathlib.Core.Path.{◌∙◌}
use mathlib.Core.Bool.{true, false}
use native.Mathlib.Omega.{arith}
use Rattle.list_updates.specs.AlongLaws.{along_listed, listed_along}
use Rattle.list_updates.proofs.update_list.Goals as goal

pub update_along-requires : goal.update_along-requires
update_along-requires c =
    let was = c.requires.listed_before in
    record { width = c.requires.width; along_before = (was.0, was.1, listed_along c.args.mode.width c.args.mode.uncounted was.0 false c.args.list.now was.2) }

pub update_along-requires-2 : goal.update_along-requires-2
update_along-requires-2 c =
    let was = c.requires.listed_before in
    let other = c.update_along.ensures.by_index in record { width = (c.requires.width.0, c.requires.width.1, c.requires.width.2, c.requires.width.3, omega arith); along_before = (was.0, was.1, λ i h. other i ∙ listed_along c.args.mode.width c.args.mode.uncounted was.0 true c.args.list.now was.2 i h) }

pub returns : goal.returns
returns c =
    let a = c.args in
    let down = c.update_along.ensures.listed_along in
    along_listed a.mode.width a.mode.uncounted a.table.now c.update_along-2.new.list (λ i h. c.update_along-2.ensures.by_index i ∙ down i h) c.update_along-2.ensures.listed_along
