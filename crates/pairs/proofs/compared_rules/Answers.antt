-- `pairs::compared_rules` meets its contract.
-- The ids differ, both slots hold rules, and then the actions tell.
use mathlib.Core.Path.{◌≡◌, sym, ap, ap₂, ◌∙◌}
use mathlib.Core.Bool.{not}
use lib.Dec.{eqb}
use borrow.Author.Tests.{eq-eqb, ne_eqb}
use Rattle.search.specs.SearchLaws.{and_more, and_stop}
use Rattle.records.specs.Record.{slot_words}
use Rattle.records.specs.Order.{distinct}
use Rattle.records.proofs.OrderLaws.{compared_not, compared_asked}
use Rattle.pairs.proofs.compared_rules.Goals.{Joined-slot_id, then-slot_id, else-slot_id}
use Rattle.pairs.proofs.compared_rules.Goals as goal

-- what the first two tests come to
two_rules : (c : Joined-slot_id)
    → c.if-slot_id.value
    ≡ distinct c.args.mode.width (slot_words c.args.mode.width c.args.table.now c.args.slot) (slot_words c.args.mode.width c.args.others.now c.args.other)
unfolding distinct
two_rules c =
    let ids = ap not (ap₂ eqb c.slot_id.ensures c.slot_id-2.ensures) in
    elim c.if-slot_id.branch [
      | then-slot_id w ↦ w.value-is ∙ and_more ids (ap not (ne_eqb _ _ w.if-slot_id.true)) w.both_hold_rules.ensures
      | else-slot_id w ↦ (let same = ap not (eq-eqb _ _ w.if-slot_id.false) in w.value-is ∙ (same ∙ and_stop _ ids same))
    ]

pub returns-then-both_hold_rules : goal.returns-then-both_hold_rules
returns-then-both_hold_rules c =
    let a = c.args in
    c.actions_compared.ensures
    ∙ compared_asked a.mode.width a.mode.uncounted (slot_words a.mode.width a.table.now a.slot) (slot_words a.mode.width a.others.now a.other)
    (sym (two_rules (goal.at.returns-then-both_hold_rules c).Joined-slot_id) ∙ c.if-both_hold_rules.true)

pub returns-else-both_hold_rules : goal.returns-else-both_hold_rules
returns-else-both_hold_rules c =
    let a = c.args in
    let no = c.if-both_hold_rules.false in
    no
    ∙ compared_not a.mode.width a.mode.uncounted (slot_words a.mode.width a.table.now a.slot) (slot_words a.mode.width a.others.now a.other)
    (sym (two_rules (goal.at.returns-else-both_hold_rules c).Joined-slot_id) ∙ no)
