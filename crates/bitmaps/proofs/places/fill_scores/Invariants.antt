-- `bitmaps::places::fill_scores` meets its contract.
-- The scores of the words passed are at most 256.
use mathlib.Core.Path.{◌≡◌}
use Prim.Native.Nat.{◌*◌, ◌≤◌}
use lib.ListN.{length}
use Rattle.bitmaps.specs.Places.{Below}
use Rattle.bitmaps.proofs.places.fill_scores.Given as goal

abbrev pub invariant-loop-word : goal.invariant-loop-word
invariant-loop-word l = (l.word ≤ l.width) × (length l.scores ≡ length l.initial.scores) × Below l.scores (64 * l.word) 257
