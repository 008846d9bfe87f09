-- `tcam::tcam_plan_insert` meets its contract.
-- The answer is spread; without the slot that it holds besides it is that of the planning.
use Rattle.std.specs.Prelude.{length}
use Rattle.std.proofs.Common.{subst, ap, ◌∙◌}
use Rattle.records.specs.Checks.{Told}
use Rattle.records.specs.Editions.{lent_rule, ranked}
use Rattle.buffers.specs.Buffers.{without_cover}
use Rattle.insert_plans.specs.Inserts.{insert_call, insert_cover}
use Rattle.insert_plans.proofs.InsertsLaws.{call_reply_dropped}
use Rattle.insert_plans.specs.Demand3.{Demand3}
use Rattle.marshalling.specs.Cells.{flag_of, data_cell, spot_cell}
use Rattle.marshalling.proofs.CellsLaws.{cover_cells}
use Rattle.tcam.proofs.tcam_plan_insert.Goals as goal

pub returns-clause-insert_left : goal.returns-clause-insert_left
returns-clause-insert_left c =
    let a = c.args in
    let w = a.width in
    let u = flag_of a.uncounted in
    let t = a.table.now in
    let rule = a.rule.now in
    let plan = a.plan.now in
    let left = c.spread_insert.ensures in
    let planned = c.plan_insert-answer.ensures in
    let told = planned.result_value in
    let cells = cover_cells (insert_call w u a.edition t rule (length plan)) (insert_cover w t (lent_rule w a.edition rule)) a.count.now a.spot.now in record {
      left = record {
        number = left.value ∙ ap (λ (x : Told). x.number) told;
        plan = planned.plan_after;
        counted = left.count_after ∙ (ap (λ (x : Told). data_cell x 0 a.count.now) told ∙ cells.0);
        spotted = left.spot_after ∙ (ap (λ (x : Told). spot_cell x a.spot.now) told ∙ cells.1);
      };
      shortest = λ insertable.
          subst (λ (x : Told). Demand3 w u t (ranked w (lent_rule w a.edition rule)) x plan c.plan_insert-answer.new.plan)
          (ap without_cover told ∙ call_reply_dropped w u a.edition t rule (length plan)) (planned.shortest insertable);
    }
