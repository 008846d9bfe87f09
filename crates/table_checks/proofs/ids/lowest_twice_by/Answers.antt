-- `table_checks::ids::lowest_twice_by` meets its contract.
-- No slot below the loop's has an id that an earlier one has, and the map has the bits of their ids.
use mathlib.Core.Path.{refl, sym, ◌∙◌}
use native.Mathlib.Omega.{arith}
use Rattle.search.specs.SearchLaws.{none_start, none_more}
use Rattle.records.specs.Checks.{check_twice}
use Rattle.records.proofs.ChecksLaws.{lowest_at_lem, lowest_none}
use Rattle.table_checks.specs.IdsLaws.{seen_more}
use Rattle.table_checks.proofs.ids.lowest_twice_by.Goals as goal

pub loop-slot-init : goal.loop-slot-init
loop-slot-init c = (none_start _ _, refl, λ k h. absurd (omega arith))

pub seen_twice-requires : goal.seen_twice-requires
seen_twice-requires c =
    record { width = (c.requires.width.0, omega arith, omega arith, omega arith); id_column = (c.requires.id_column, c.loop-slot.invariant.2) }

pub returns-then-seen_twice : goal.returns-then-seen_twice
unfolding check_twice
returns-then-seen_twice c = lowest_at_lem _ _ _ _ (omega arith) c.loop-slot.invariant.0.1 (sym c.seen_twice.ensures ∙ c.if-seen_twice.true)

pub loop-slot-preserved : goal.loop-slot-preserved
loop-slot-preserved c =
    let turn = c.loop-slot in
    let ids = c.args.ids.now in
    let called = c.note_seen in (
      none_more _ _ _ turn.invariant.0 (omega arith) (sym c.seen_twice.ensures ∙ c.if-seen_twice.false),
      omega (arith, called.auto, turn.invariant.1),
      rw called.ensures (seen_more ids turn.seen turn.slot (omega (arith, turn.invariant.1)) turn.invariant.2),
    )

pub returns : goal.returns
unfolding check_twice
returns c = lowest_none _ _ _ (λ k h. c.loop-slot.invariant.0.1 k (omega arith))
