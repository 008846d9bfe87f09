-- `insert_plans::plan_covered` meets its contract.
-- A plan gets the slot besides; a refusal is as it was.
use mathlib.Core.Path.{ap, ap₂, ◌∙◌}
use Rattle.records.proofs.Laws.{is_refusal}
use Rattle.buffers.specs.Buffers.{insert_answer_told, with_cover}
use Rattle.buffers.proofs.BuffersLaws.{cover_refused}
use Rattle.table_checks.specs.SlotsLaws.{table_few}
use Rattle.insert_plans.proofs.plan_covered.Goals as goal

pub covering_slot-requires : goal.covering_slot-requires
covering_slot-requires c =
    (c.requires.width.0, table_few c.args.mode.width c.args.mode.uncounted c.args.table.now c.requires.width.1, c.requires.len.0)

pub returns-in_err-info : goal.returns-in_err-info
returns-in_err-info c = record {
  result_value = ap insert_answer_told (is_refusal _ c.from_residual.ensures.1) ∙ cover_refused _ _ _ c.in_err-info.ensures.result_value;
  plan_after = c.plan_checked.ensures.plan_after;
}

pub returns : goal.returns
returns c = record {
  result_value = ap₂ with_cover c.in_ok-info.ensures.result_value c.covering_slot.ensures;
  plan_after = c.plan_checked.ensures.plan_after;
}
