-- `neighbour_lists::lent::store_list` meets its contract.
-- The numbers below the loop's index are stored, the others are as they were, and whether one of those below differed is told.
use mathlib.Core.Path.{◌≡◌, refl, sym, ap, ap₂, ◌∙◌}
use mathlib.Core.Bool.{Bool, not, ◌||◌}
use Prim.Native.Nat.{ℕ}
use native.Mathlib.Omega.{arith}
use lib.Dec.{eqb}
use lib.ListN.{length, get_or}
use Rattle.search.specs.Search as S
use Rattle.neighbour_lists.specs.Lists.{differing}
use Rattle.neighbour_lists.proofs.LentLaws.{stored_next, stored_all, differing_next}
use Rattle.neighbour_lists.proofs.lent.store_list.Goals as goal

pub loop-index-init : goal.loop-index-init
unfolding differing S.all
loop-index-init c = (omega arith, refl, record { size = refl; first = λ k l. absurd (omega arith); rest = λ k l. refl }, refl)

pub loop-index-preserved : goal.loop-index-preserved
loop-index-preserved c =
    let a = c.args in
    let inv = c.loop-index.invariant in
    let i = c.loop-index.index in
    let l = c.loop-index.list in
    let v = get_or a.near.now i 0 in
    let next = stored_next a.near.now a.list.now l i inv.2 (omega arith) in (
      omega arith,
      next.size,
      next,
      ap₂ (λ (n : ℕ) (b : Bool). not (eqb n v) || b) (inv.2.rest i (omega arith)) inv.3 ∙ sym (differing_next a.near.now a.list.now i),
    )

pub returns : goal.returns
returns c =
    let a = c.args in
    let inv = c.loop-index.invariant in
    let end : c.loop-index.index ≡ length a.list.now = omega arith in record { list_after = stored_all a.near.now a.list.now c.loop-index.list c.loop-index.index inv.2 (omega arith) c.requires; value = inv.3 ∙ ap (differing a.near.now a.list.now) end }
