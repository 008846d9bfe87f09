-- `insert_plans::plan_rule` meets its contract.
-- The rule of its record is the rule.
use mathlib.Core.Path.{ap, ◌∙◌}
use mathlib.Core.Bool.{false}
use mathlib.Core.List.{List}
use Prim.Native.Nat.{ℕ}
use native.Mathlib.Omega.{arith}
use lib.ListN.{length}
use Rattle.records.specs.Record.{word, rule_of}
use Rattle.records.specs.Rules.{Fields}
use Rattle.records.proofs.RulesLaws.{record_length, rule_of_record}
use Rattle.records.proofs.WidthsLaws.{two}
use Rattle.records.specs.Editions.{under13}
use Rattle.records.specs.declared.Rule.{Rule}
use Rattle.buffers.specs.Buffers.{without_cover}
use Rattle.insert_plans.specs.Inserts.{insert_reply, insert_plan}
use Rattle.insert_plans.proofs.InsertsLaws.{reply_dropped}
use Rattle.insert_plans.proofs.Demand3Laws.{demand_3_rule}
use Rattle.insert_plans.proofs.plan_rule.Goals as goal

pub insert_at-requires : goal.insert_at-requires
insert_at-requires c = (two, ap length c.record_of-words.ensures ∙ record_length 2 c.args.rule)

pub returns : goal.returns
returns c =
    let a = c.args in
    let t = a.table.now in
    let plan = a.plan.now in
    let fields : Fields 2 a.rule = record {
      values = omega arith;
      masks = omega arith;
      id32 = omega arith;
      priority32 = omega arith;
      action32 = omega arith;
    } in
    let same = ap (λ (l : List ℕ). rule_of 2 (word l)) c.record_of-words.ensures ∙ rule_of_record 2 a.rule fields in
    let told = c.insert_at.ensures.result_value ∙ ap (λ (r : Rule). insert_reply 2 false t (under13 r) (length plan)) same in
    let buffer = c.insert_at.ensures.plan_after ∙ ap (λ (r : Rule). insert_plan 2 false t (under13 r) plan) same in
    let dropped = ap without_cover told ∙ reply_dropped 2 false t (under13 a.rule) (length plan) in
    record { result_value = told; plan_after = buffer; shortest = demand_3_rule 2 false t a.rule plan _ _ fields.action32 dropped buffer }
