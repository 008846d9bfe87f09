-- `slots::given::check_given` meets its contract.
-- 5 where the rule is unsound; else what the check of the edition says.
use mathlib.Core.Path.{sym, ◌∙◌}
use Rattle.records.specs.Editions.{check_given, check_sound}
use Rattle.records.proofs.WidthsLaws.{lent_slot}
use Rattle.records.proofs.EditionsLaws.{lent_sound}
use Rattle.slots.proofs.given.check_given.Goals as goal

pub slot_given-requires : goal.slot_given-requires
slot_given-requires c = (c.requires.0, lent_slot _ c.args.rule.now c.requires.1)

pub returns-then-slot_given : goal.returns-then-slot_given
unfolding check_given check_sound
returns-then-slot_given c =
    let a = c.args in
    rw (lent_sound _ a.rule.now ∙ (sym c.slot_given.ensures ∙ c.if-slot_given.true)) c.check_edition.ensures

pub returns : goal.returns
unfolding check_given check_sound
returns c =
    let a = c.args in
    rw (lent_sound _ a.rule.now ∙ (sym c.slot_given.ensures ∙ c.if-slot_given.false))
