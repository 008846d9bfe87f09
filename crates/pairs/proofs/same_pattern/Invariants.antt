-- `pairs::same_pattern` meets its contract.
-- The words below the loop's are the same.
use Prim.Native.Nat.{ℕ, ◌*◌}
use lib.Dec.{eqb}
use Rattle.search.specs.Search.{AllBelow}
use Rattle.records.specs.Record.{slot_words}
use Rattle.pairs.proofs.same_pattern.Given as goal

abbrev pub invariant-loop-place : goal.invariant-loop-place
invariant-loop-place l = AllBelow (λ (j : ℕ). eqb (slot_words l.width l.table l.slot j) (slot_words l.width l.others l.other j)) (2 * l.width) l.place
