-- `table_checks::ids::fill_ids_by` meets its contract.
-- The column's entries below the loop's slot are those slots' ids.
use mathlib.Core.Path.{refl, ◌∙◌}
use native.Mathlib.Omega.{arith}
use lib.ListN.{length-set}
use Rattle.table_checks.specs.IdsLaws.{column_more}
use Rattle.table_checks.proofs.ids.fill_ids_by.Goals as goal

pub loop-slot-init : goal.loop-slot-init
loop-slot-init c = (omega arith, refl, λ k h. absurd (omega arith))

pub short_id-requires : goal.short_id-requires
short_id-requires c = (c.requires.0, omega arith)

pub loop-slot-preserved : goal.loop-slot-preserved
loop-slot-preserved c =
    let table = c.args.table.now in
    let ids = c.loop-slot.ids in
    let slot = c.loop-slot.slot in
    let id = c.short_id.result in
    let inv = c.loop-slot.invariant in (
      omega arith,
      length-set ids slot id ∙ inv.1,
      column_more _ table ids slot id (omega arith) inv.2 c.short_id.ensures,
    )

pub returns : goal.returns
returns c k h = c.loop-slot.invariant.2 k (omega arith)
