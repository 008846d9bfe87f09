-- `table_checks::skip_unmatched_by` meets its contract.
-- No slot from the first up to the loop's may match.
use mathlib.Core.Path.{◌≡◌}
use Prim.Native.Nat.{◌+◌, ◌*◌}
use Rattle.search.specs.Search.{NoneFrom}
use Rattle.records.specs.Order.{slots}
use Rattle.table_checks.specs.Screen.{may_match}
use Rattle.table_checks.proofs.skip_unmatched_by.Given as goal

abbrev pub invariant-loop-four : goal.invariant-loop-four
invariant-loop-four l = (l.at ≡ l.from + 4 * l._four) × NoneFrom (may_match l.width l.table l.first l.second) l.from (slots l.width l.table) l.at
