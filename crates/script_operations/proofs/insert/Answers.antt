-- `script_operations::insert` meets its contract.
-- The plan is carried out and printed, and the answer is the planning call's.
-- without the slot that it holds besides, the answer is that of the planning
use mathlib.Core.Path.{◌≡◌, ap, ◌∙◌}
use mathlib.Core.Bool.{false}
use mathlib.Core.List.{List}
use Prim.Native.Nat.{ℕ}
use native.Mathlib.Omega.{arith}
use lib.ListN.{length}
use Rattle.records.specs.Checks.{Told}
use Rattle.records.specs.Editions.{under13}
use Rattle.records.specs.declared.Rule.{Rule}
use Rattle.buffers.specs.Buffers.{without_cover}
use Rattle.insert_plans.specs.Inserts.{insert_answer, insert_reply}
use Rattle.insert_plans.proofs.InsertsLaws.{reply_dropped}
use Rattle.script_operations.proofs.OutcomesLaws.{changed_is}
use Rattle.script_operations.proofs.InsertLinesLaws.{insert_is, insert_told_lem}
use Rattle.script_operations.proofs.insert.Goals as goal

planned : (t : List ℕ) (rule : Rule) (room : ℕ) {told : Told} → told ≡ insert_reply 2 false t (under13 rule) room → without_cover told ≡ insert_answer 2 false t (under13 rule) room
planned t rule room e = ap without_cover e ∙ reply_dropped 2 false t (under13 rule) room

pub carry_and_print-length-requires : goal.carry_and_print-length-requires
carry_and_print-length-requires c =
    let told = c.without_cover-answer.ensures ∙ planned c.args.table.now c.args.rule (length c.args.plan.now) c.plan_rule.ensures.result_value in
    ((insert_is c.args.table.now c.args.rule c.args.plan.now c.plan_rule.new.plan _ (omega arith) c.requires told c.plan_rule.ensures.plan_after).0, omega (arith, c.plan_rule.auto.plan, c.requires))

pub returns : goal.returns
returns c =
    let told = c.without_cover-answer.ensures ∙ planned c.args.table.now c.args.rule (length c.args.plan.now) c.plan_rule.ensures.result_value in record { changed = changed_is (insert_is c.args.table.now c.args.rule c.args.plan.now c.plan_rule.new.plan _ (omega arith) c.requires told c.plan_rule.ensures.plan_after).1 c.carry_and_print-length.ensures; answer_value = c.of_plan.ensures ∙ insert_told_lem c.args.table.now c.args.rule _ _ (omega arith) c.requires told }
