-- `slots::slot_plain` meets its contract.
-- Without an id the slot holds no rule, with one it is not empty.
use mathlib.Core.Path.{sym, ap, ◌∙◌}
use mathlib.Core.Bool.{or-false}
use Prim.Native.Nat.{ℕ}
use lib.Dec.{eqb}
use borrow.Author.Tests.{eq-eqb}
use Rattle.records.specs.Record.{sound_parts}
use Rattle.records.proofs.Laws.{ident_not_empty}
use Rattle.slots.proofs.slot_plain.Goals as goal

pub returns-then-slot_id-eq0 : goal.returns-then-slot_id-eq0
unfolding sound_parts
returns-then-slot_id-eq0 c =
    rw (ap (λ (id : ℕ). eqb id 0) (sym c.slot_id.ensures) ∙ eq-eqb _ 0 c.if-slot_id-eq0.true, or-false)
    c.slot_zero.ensures

pub returns : goal.returns
returns c =
    rw (ident_not_empty _ _ (λ z. c.if-slot_id-eq0.false (c.slot_id.ensures ∙ z))) c.slot_given.ensures
