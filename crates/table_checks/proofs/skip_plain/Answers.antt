-- `table_checks::skip_plain` meets its contract.
-- Each slot below the loop's is empty or holds a rule that is sound as one is given, and so a sound record.
use mathlib.Core.Path.{sym, ◌∙◌}
use native.Mathlib.Omega.{arith}
use borrow.Author.Tests.{not-false}
use Rattle.search.specs.SearchLaws.{none_start, none_more}
use Rattle.records.proofs.Laws.{plain_sound}
use Rattle.table_checks.proofs.skip_plain.Goals as goal

pub loop-slot-init : goal.loop-slot-init
loop-slot-init c = none_start _ _

pub slot_plain-requires : goal.slot_plain-requires
slot_plain-requires c = (c.requires, omega arith)

pub returns-then-not-slot_plain : goal.returns-then-not-slot_plain
returns-then-not-slot_plain c =
    let inv = c.loop-slot.invariant in
    (omega arith, omega (arith, inv.0, c.slot_count-slots.ensures), λ k l h. inv.1 k h)

pub loop-slot-preserved : goal.loop-slot-preserved
loop-slot-preserved c =
    none_more _ _ _ c.loop-slot.invariant (omega arith)
    (plain_sound _ _ _ (sym c.slot_plain.ensures ∙ not-false _ c.if-not-slot_plain.false-raw))

pub returns : goal.returns
returns c =
    (omega arith, omega (arith, c.slot_count-slots.ensures), λ k l h. c.loop-slot.invariant.1 k (omega arith))
