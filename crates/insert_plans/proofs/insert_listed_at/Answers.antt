-- `insert_plans::insert_listed_at` meets its contract.
-- The list that a plan was found by is the table's, and has room for the lent one.
use mathlib.Core.Path.{sym, ap, ◌∙◌}
use mathlib.Core.Bool.{cond}
use Prim.Native.Nat.{ℕ}
use native.Mathlib.Omega.{arith}
use lib.Dec.{eqb}
use lib.ListN.{take}
use Rattle.records.specs.Checks.{Told}
use Rattle.buffers.specs.Buffers.{insert_answer_told, listed_answer_told}
use Rattle.buffers.proofs.BuffersLaws.{refreshed_refused, refreshed_planned}
use Rattle.std.specs.Prelude.{Result}
use Rattle.records.specs.declared.Refusal.{Refusal}
use Rattle.records.proofs.Laws.{is_refusal}
use Rattle.buffers.specs.declared.InsertInfo.{InsertInfo}
use Rattle.neighbour_lists.specs.Lists.{list_of, stale_list, differing}
use Rattle.neighbour_lists.proofs.LentLaws.{listed_front, differing_stale}
use Rattle.table_checks.specs.SlotsLaws.{table_few}
use Rattle.insert_plans.proofs.ListedInsertsLaws.{refusal_keeps}
use Rattle.insert_plans.proofs.insert_listed_at.Goals as goal

pub store_list-requires : goal.store_list-requires
store_list-requires c =
    let a = c.args in
    let found = c.insert_near.ensures.table_value (ap (λ (x : Result InsertInfo Refusal). (insert_answer_told x).number) c.in_ok-info.was) in
    omega (arith, c.requires.2, table_few a.mode.width a.mode.uncounted a.table.now found.0, c.insert_near.auto.near)

pub returns : goal.returns
returns c =
    let a = c.args in
    let w = a.mode.width in
    let u = a.mode.uncounted in
    let t = a.table.now in
    let list = a.list.now in
    let size = c.requires.2 in
    let told = c.insert_near.ensures.result_value in
    let planned = c.in_ok-info.was in
    let zero = ap (λ (x : Result InsertInfo Refusal). (insert_answer_told x).number) planned in
    let found = c.insert_near.ensures.table_value zero in
    let near = c.insert_near.new.near in
    let few = table_few w u t found.0 in
    let front = c.store_list.ensures.list_after ∙ (ap (λ (n : ℕ). take n near) size ∙ listed_front w u t near found.1 (omega (arith, few, c.insert_near.auto.near))) in
    let stale = c.store_list.ensures.value ∙ (ap (differing near list) size ∙ differing_stale w u t near list found.1) in
    record { result_value = refreshed_planned planned told stale; plan_after = c.insert_near.ensures.plan_after; list_after = front ∙ ap (λ (n : ℕ). cond (eqb n 0) (list_of w u t) list) (sym zero ∙ ap (λ (x : Told). x.number) told) }

pub returns-in_err-info : goal.returns-in_err-info
returns-in_err-info c =
    let a = c.args in
    let w = a.mode.width in
    let u = a.mode.uncounted in
    let t = a.table.now in
    let list = a.list.now in
    let refused = c.in_err-info.ensures.result_value in record {
      result_value = ap listed_answer_told (is_refusal _ c.from_residual.ensures.1) ∙ refreshed_refused _ _ (stale_list w u t list) refused;
      plan_after = c.insert_near.ensures.plan_after;
      list_after = refusal_keeps _ _ (list_of w u t) list refused;
    }
