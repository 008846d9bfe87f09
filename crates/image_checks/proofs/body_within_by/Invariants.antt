-- `image_checks::body_within_by` meets its contract.
-- Each word below the loop's lies within its mask.
use Prim.Native.Nat.{ℕ}
use Rattle.search.specs.Search.{AllBelow}
use Rattle.ternary.specs.Word.{inside}
use Rattle.records.specs.Record.{mask}
use Rattle.image.specs.Format.{body_word}
use Rattle.image_checks.proofs.body_within_by.Given as goal

abbrev pub invariant-loop-index : goal.invariant-loop-index
invariant-loop-index l = AllBelow (λ (j : ℕ). inside (body_word l.image l.at j) (mask l.width (body_word l.image l.at) j)) l.width l.index
