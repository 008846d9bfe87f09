-- `costs::fill_costs` meets its contract.
-- From the loop's position on the equation of costs holds, and a store before that position leaves it so; the least cost from there on is at hand.
use mathlib.Core.Path.{◌≡◌, refl, sym, ◌∙◌}
use Prim.Native.Nat.{◌+◌, ◌-◌}
use native.Mathlib.Omega.{arith}
use lib.ListN.{length-set}
use lib.Seq.{drop-set-lt}
use Rattle.costs.proofs.CostsLaws.{solved_more, minimum_over, minimum_stored}
use Rattle.costs.proofs.fill_costs.Goals as goal

pub overflow_cast-least : goal.overflow_cast-least
overflow_cast-least c = omega (arith, c.requires.few)

pub loop-position-init : goal.loop-position-init
loop-position-init c = (omega arith, refl, λ p l r. absurd (omega arith), refl, sym (minimum_over _ _ _ _ (omega arith)))

pub position_cost-cost-requires : goal.position_cost-cost-requires
position_cost-cost-requires c =
    let e : c.loop-position.position - 1 + 1 ≡ c.loop-position.position = omega arith in
    record {
      sized = record { few = c.requires.few; ends_long = c.requires.ends_long; costs_long = omega arith; within = c.requires.within };
      position_lt_slots = omega arith;
      beyond_value = rw e c.loop-position.invariant.4;
    }

pub loop-position-preserved : goal.loop-position-preserved
loop-position-preserved c =
    let turn = c.loop-position in
    let cost = c.position_cost-cost.result in (
      omega arith,
      simp length-set turn.invariant.1,
      solved_more _ turn.costs _ turn.position _ (omega arith) (omega arith) (omega arith) turn.invariant.2 c.position_cost-cost.ensures,
      drop-set-lt c.args.slots turn.costs (turn.position - 1) _ (omega arith) ∙ turn.invariant.3,
      omega (arith, turn.invariant.4, minimum_stored turn.costs c.args.slots turn.position cost (omega arith) (omega arith) (omega arith)),
    )

pub returns : goal.returns
returns c = record { solved = λ p l r. c.loop-position.invariant.2 p (omega arith) r; rest = c.loop-position.invariant.3 }
