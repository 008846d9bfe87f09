-- `slots::given::given_rank` meets its contract.
-- The mask is asked under 1.0 alone.
use mathlib.Core.Path.{sym, ◌∙◌}
use mathlib.Core.Logic.◌⊎◌.{inl, inr}
use borrow.Author.Tests.{eq-eqb}
use Rattle.records.proofs.WidthsLaws.{lent_slot}
use Rattle.records.specs.Editions.{rank_of}
use Rattle.records.proofs.EditionsLaws.{rank_plain}
use Rattle.slots.proofs.given.given_rank.Goals as goal
use Rattle.slots.proofs.given.given_rank.Goals.{then-edition-eq-EDITION_10+else-mask_full, else-edition-eq-EDITION_10}

pub mask_full-requires : goal.mask_full-requires
mask_full-requires c = (c.requires.0, lent_slot _ c.args.rule.now c.requires.1)

pub returns-then-mask_full : goal.returns-then-mask_full
unfolding rank_of
returns-then-mask_full c = rw (eq-eqb _ 10 c.if-edition-eq-EDITION_10.true, sym c.mask_full.ensures ∙ c.if-mask_full.true)

pub slot_rank-requires : goal.slot_rank-requires
slot_rank-requires c = (c.requires.0, lent_slot _ c.args.rule.now c.requires.1)

pub returns : goal.returns
returns c =
    c.slot_rank.ensures
    ∙ sym (rank_plain c.args.width c.args.edition _ _
    (elim c.if-edition-eq-EDITION_10.branch [ then-edition-eq-EDITION_10+else-mask_full w ↦ inr (sym w.mask_full.ensures ∙ w.if-mask_full.false) | else-edition-eq-EDITION_10 w ↦ inl w.if-edition-eq-EDITION_10.false ]))
