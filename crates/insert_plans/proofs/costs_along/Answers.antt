-- `insert_plans::costs_along` meets its contract.
-- The numbers filled in are window ends within the table, and the costs solve their equations.
use mathlib.Core.Path.{◌≡◌, ap, subst, ◌∙◌}
use mathlib.Core.List.{List}
use Prim.Native.Nat.{ℕ, ◌≤◌, ◌<◌}
use native.Mathlib.Omega.{arith}
use lib.ListN.{get_or, drop}
use Rattle.records.specs.Order.{slots}
use Rattle.costs.specs.Costs.{cost_of, SolvedFrom}
use Rattle.windows.specs.Windows.{end_at}
use Rattle.windows.specs.WindowsLaws.{end_high}
use Rattle.insert_plans.proofs.JoinedLaws.{numbers_front, costed}
use Rattle.insert_plans.proofs.costs_along.Goals as goal

pub fill_costs-requires : goal.fill_costs-requires
fill_costs-requires c =
    record { few = omega arith; ends_long = omega arith; costs_long = omega arith; within = λ p h. bounded p (omega arith) }
  where
    bounded : (p : ℕ) → p < slots c.args.mode.width c.args.table.now → get_or c.fill_ends.new.ends p 0 ≤ c.slot_count-slots.result
    bounded p h =
        let a = c.args in
        let n = slots a.mode.width a.table.now in
        let at : get_or c.fill_ends.new.ends p 0 ≡ end_at a.mode.width a.mode.uncounted a.table.now a.up p =
        ap (λ (l : List ℕ). get_or l p 0) c.fill_ends.ensures ∙ numbers_front n (end_at a.mode.width a.mode.uncounted a.table.now a.up) (drop n a.ends.now) p h in
        omega (arith, at, end_high a.mode.width a.mode.uncounted a.table.now a.up p, c.slot_count-slots.ensures)

pub returns : goal.returns
returns c =
    let a = c.args in
    let ends = c.fill_ends.new.ends in
    let costs = c.fill_costs.new.costs in
    costed _ _ a.table.now a.up ends (drop (slots a.mode.width a.table.now) a.ends.now) costs
    c.fill_ends.ensures
    (subst (λ (n : ℕ). SolvedFrom ends n 0 (cost_of costs)) c.slot_count-slots.ensures c.fill_costs.ensures.solved)
