-- `loads::copy_words` meets its contract.
-- The words passed are the other table's.
use mathlib.Core.Path.{◌≡◌}
use Prim.Native.Nat.{◌≤◌}
use lib.ListN.{length, take}
use Rattle.loads.proofs.copy_words.Given as goal

abbrev pub invariant-loop-word : goal.invariant-loop-word
invariant-loop-word l = (l.word ≤ length l.from) × (length l.to ≡ length l.initial.to) × (take l.word l.to ≡ take l.word l.from)
