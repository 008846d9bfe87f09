-- `bitmaps::places::score_word` meets its contract.
-- The scores of the places passed are at most 256.
use mathlib.Core.Path.{◌≡◌}
use Prim.Native.Nat.{◌+◌, ◌*◌, ◌≤◌}
use lib.ListN.{length}
use Rattle.bitmaps.specs.Places.{Below}
use Rattle.bitmaps.proofs.places.score_word.Given as goal

abbrev pub invariant-loop-s : goal.invariant-loop-s
invariant-loop-s l = (l.s ≤ 64) × (length l.scores ≡ length l.initial.scores) × Below l.scores (64 * l.word + l.s) 257
