-- `table_checks::ids::listed_before` meets its contract.
-- What is found is what the entries below the loop's say.
use mathlib.Core.Path.{◌≡◌}
use Prim.Native.Nat.{ℕ, ◌≤◌}
use lib.Dec.{eqb}
use lib.ListN.{get_or}
use Rattle.search.specs.Search.{any}
use Rattle.table_checks.proofs.ids.listed_before.Given as goal

abbrev pub invariant-loop-earlier : goal.invariant-loop-earlier
invariant-loop-earlier l = (l.earlier ≤ l.slot) × (l.found ≡ any (λ (i : ℕ). eqb (get_or l.ids i 0) (get_or l.ids l.slot 0)) l.earlier)
