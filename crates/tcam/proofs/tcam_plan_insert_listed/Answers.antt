-- `tcam::tcam_plan_insert_listed` meets its contract.
-- The answer is spread; without what it holds besides its count it is that of the planning, where the list has the table's length.
use Rattle.std.proofs.Common.{subst, ap, ◌∙◌}
use Rattle.records.specs.Checks.{Told}
use Rattle.records.specs.Editions.{lent_rule, ranked}
use Rattle.buffers.specs.Buffers.{without_cover}
use Rattle.insert_plans.proofs.ListedInsertsLaws.{listed_dropped}
use Rattle.insert_plans.specs.Demand3.{Demand3}
use Rattle.marshalling.specs.Cells.{flag_of, data_cell, spot_cell}
use Rattle.tcam.proofs.tcam_plan_insert_listed.Goals as goal

pub returns : goal.returns
returns c =
    let a = c.args in
    let w = a.width in
    let u = flag_of a.uncounted in
    let t = a.table.now in
    let rule = a.rule.now in
    let plan = a.plan.now in
    let left = c.spread_listed.ensures in
    let planned = c.plan_insert_listed-answer.ensures in
    let told = planned.result_value in
    record {
      left = record {
        number = left.value ∙ ap (λ (x : Told). x.number) told;
        plan = planned.plan_after;
        counted = left.count_after ∙ ap (λ (x : Told). data_cell x 0 a.count.now) told;
        spotted = left.spot_after ∙ ap (λ (x : Told). spot_cell x a.spot.now) told;
      };
      covered_told = left.covered_after ∙ ap (λ (x : Told). data_cell x 1 a.covered.now) told;
      refreshed_told = left.refreshed_after ∙ ap (λ (x : Told). data_cell x 2 a.refreshed.now) told;
      listed = planned.list_after;
      shortest = λ size insertable.
          subst (λ (x : Told). Demand3 w u t (ranked w (lent_rule w a.edition rule)) x plan c.plan_insert_listed-answer.new.plan)
          (ap without_cover told ∙ listed_dropped w u a.edition t rule a.list.now plan size) (planned.shortest size insertable);
    }
