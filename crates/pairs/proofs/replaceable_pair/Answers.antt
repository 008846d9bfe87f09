-- `pairs::replaceable_pair` meets its contract.
-- Equal rules first; the actions only where they are asked.
use mathlib.Core.Path.{sym, ◌∙◌}
use borrow.Author.Tests.{not-true, not-false}
use Rattle.records.specs.Record.{slot_words}
use Rattle.records.specs.Order.{replaceable}
use Rattle.records.proofs.OrderLaws.{replaced_unequal, replaced_asked, replaced_counted}
use Rattle.pairs.proofs.replaceable_pair.Goals as goal

pub returns-else-equal_rules : goal.returns-else-equal_rules
returns-else-equal_rules c =
    let a = c.args in
    let no = c.if-equal_rules.false in
    no
    ∙ replaced_unequal a.mode.width a.mode.uncounted (slot_words a.mode.width a.table.now a.slot) (slot_words a.mode.width a.others.now a.other)
    (sym c.equal_rules.ensures ∙ no)

pub returns-then-not-mode : goal.returns-then-not-mode
returns-then-not-mode c =
    let a = c.args in
    c.if-not-mode.true
    ∙ replaced_counted a.mode.width a.mode.uncounted (slot_words a.mode.width a.table.now a.slot) (slot_words a.mode.width a.others.now a.other)
    (not-true _ c.if-not-mode.true) (sym c.equal_rules.ensures ∙ c.if-equal_rules.true)

pub returns-else-not-mode : goal.returns-else-not-mode
unfolding replaceable
returns-else-not-mode c = rw (← c.same_action.ensures, ← c.equal_rules.ensures) (replaced_asked _ _ _ (not-false _ c.if-not-mode.false) c.if-equal_rules.true)
