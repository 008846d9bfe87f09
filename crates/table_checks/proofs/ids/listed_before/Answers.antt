-- `table_checks::ids::listed_before` meets its contract.
-- What is found is what the entries below the loop's say.
use mathlib.Core.Path.{◌≡◌, refl, ap, ◌∙◌}
use Prim.Native.Nat.{ℕ}
use native.Mathlib.Omega.{arith}
use native.Mathlib.Numerals.{add-one}
use lib.Dec.{eqb}
use lib.ListN.{get_or}
use Rattle.search.specs.Search.{any}
use Rattle.table_checks.specs.Ids.{listed_twice}
use Rattle.table_checks.proofs.ids.listed_before.Goals as goal

pub loop-earlier-init : goal.loop-earlier-init
unfolding any
loop-earlier-init c = (omega arith, refl)

pub loop-earlier-preserved : goal.loop-earlier-preserved
unfolding any
loop-earlier-preserved c = (omega arith, rw (add-one, c.loop-earlier.invariant.1))

pub returns : goal.returns
unfolding listed_twice
returns c =
    let a = c.args in
    let done : c.loop-earlier.earlier ≡ a.slot = omega arith in
    c.loop-earlier.invariant.1 ∙ ap (any (λ (i : ℕ). eqb (get_or a.ids.now i 0) (get_or a.ids.now a.slot 0))) done
