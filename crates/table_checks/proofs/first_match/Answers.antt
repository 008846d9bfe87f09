-- `table_checks::first_match` meets its contract.
-- No slot below the loop's matches: those passed over may not, and those compared do not.
use mathlib.Core.Path.{sym, ◌∙◌}
use native.Mathlib.Omega.{arith}
use Rattle.search.specs.SearchLaws.{none_from_start, least_none}
use Rattle.records.specs.Record.{word}
use Rattle.records.proofs.WidthsLaws.{slots_fit}
use Rattle.table_checks.specs.ScreenLaws.{screened, none_among, first_among}
use Rattle.table_checks.proofs.first_match.Goals as goal

pub loop-slot-init : goal.loop-slot-init
loop-slot-init c = none_from_start _ _ _ (omega arith)

pub skip_unmatched-from-requires : goal.skip_unmatched-from-requires
skip_unmatched-from-requires c = (c.requires.0, omega arith)

pub overflow_add-from : goal.overflow_add-from
overflow_add-from c = omega (arith, c.skip_unmatched-from.ensures.1, slots_fit c.args.width c.args.table.now)

pub match_among-slot-requires : goal.match_among-slot-requires
match_among-slot-requires c = (c.requires.0, omega (arith, c.skip_unmatched-from.ensures.1), omega arith, c.requires.1)

pub returns-then-slot-to : goal.returns-then-slot-to
returns-then-slot-to c =
    let none = screened c.args.width c.args.table.now (word c.args.key.now) _ _ _ _ c.requires.0.0 c.loop-slot.invariant c.skip_unmatched-from.ensures in
    first_among _ _ _ _ _ (omega (arith, c.skip_unmatched-from.ensures.1)) (omega arith) none c.match_among-slot.ensures c.if-slot-to.true

pub loop-slot-smaller : goal.loop-slot-smaller
loop-slot-smaller c = omega (arith, c.skip_unmatched-from.ensures.0)

pub loop-slot-preserved : goal.loop-slot-preserved
loop-slot-preserved c =
    let none = screened c.args.width c.args.table.now (word c.args.key.now) _ _ _ _ c.requires.0.0 c.loop-slot.invariant c.skip_unmatched-from.ensures in
    none_among _ _ _ _ _ (omega (arith, c.skip_unmatched-from.ensures.1)) (omega arith) none c.match_among-slot.ensures

pub returns : goal.returns
returns c = c.slot_count-slots.ensures ∙ sym (least_none _ _ (λ k h. c.loop-slot.invariant.2 k (omega arith) (omega arith)))
