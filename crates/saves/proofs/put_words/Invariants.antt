-- `saves::put_words` meets its contract.
-- The first four words are stored, then those passed, one behind another.
use mathlib.Core.Path.{◌≡◌}
use mathlib.Core.List.{List}
use Prim.Native.Nat.{ℕ, ◌+◌, ◌*◌, ◌≤◌}
use lib.ListN.{length}
use Rattle.records.specs.Record.{slot_words}
use Rattle.image.specs.Bytes.{bytes_of, store, pieces}
use Rattle.saves.proofs.put_words.Given as goal

abbrev pub invariant-loop-word : goal.invariant-loop-word
invariant-loop-word l = (l.word ≤ 2 * l.width) × (l.at + 16 * l.width ≤ length l.image) × (length l.image ≡ length l.initial.image)
    × ((b : List ℕ) → l.at ≤ length b → l.initial.image ≡ store b l.at (pieces (λ (j : ℕ). bytes_of 8 (slot_words l.width l.table l.slot j)) 4) → l.image ≡ store b l.at (pieces (λ (j : ℕ). bytes_of 8 (slot_words l.width l.table l.slot j)) l.word))
