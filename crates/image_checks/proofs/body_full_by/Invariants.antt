-- `image_checks::body_full_by` meets its contract.
-- Each mask word below the loop's has every bit set.
use Prim.Native.Nat.{ℕ}
use Rattle.search.specs.Search.{AllBelow}
use Rattle.ternary.specs.Word.{inside, ones}
use Rattle.records.specs.Record.{mask}
use Rattle.image.specs.Format.{body_word}
use Rattle.image_checks.proofs.body_full_by.Given as goal

abbrev pub invariant-loop-index : goal.invariant-loop-index
invariant-loop-index l = AllBelow (λ (j : ℕ). inside ones (mask l.width (body_word l.image l.at) j)) l.width l.index
