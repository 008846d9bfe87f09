-- `steps::step::step_rule` meets its contract.
-- The step sees the record of the rule, and the rule of that record is the rule given.
use mathlib.Core.Path.{◌≡◌, ap, ◌∙◌}
use Prim.Native.Nat.{ℕ}
use mathlib.Core.List.{List}
use lib.ListN.{length}
use borrow.Author.Rules.{rules}
use Rattle.records.specs.Record.{word, rule_of}
use Rattle.records.specs.Rules.{Fields}
use Rattle.records.proofs.RulesLaws.{record_length, rule_of_record}
use Rattle.records.proofs.WidthsLaws.{two}
use Rattle.records.specs.Editions.{under13}
use Rattle.records.specs.declared.Rule.{Rule}
use Rattle.carrying.specs.Carrying.{step_answer, step_table}
use Rattle.steps.proofs.step.step_rule.Goals as goal

pub step_at-requires : goal.step_at-requires
step_at-requires c =
    (two, ap length c.record_of-record.ensures ∙ record_length 2 c.args.rule)

pub returns : goal.returns
returns c =
    let a = c.args in
    let fields : Fields 2 a.rule = record {
      values = search rules;
      masks = search rules;
      id32 = search rules;
      priority32 = search rules;
      action32 = search rules;
    } in
    let same : rule_of 2 (word c.record_of-record.result) ≡ a.rule =
    ap (λ (l : List ℕ). rule_of 2 (word l)) c.record_of-record.ensures ∙ rule_of_record 2 a.rule fields in record { result_value = c.step_at.ensures.result_value ∙ ap (λ (r : Rule). step_answer 2 a.table.now a.plan.now (under13 r) a.done a.total) same; table_after = c.step_at.ensures.table_after ∙ ap (λ (r : Rule). step_table 2 a.table.now a.plan.now (under13 r) a.done a.total) same }
