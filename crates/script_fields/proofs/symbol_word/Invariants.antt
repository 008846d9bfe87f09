-- `script_fields::symbol_word` meets its contract.
-- The word has the bits of the symbols passed; there are never more than 64 of them.
use mathlib.Core.Path.{◌≡◌}
use Prim.Native.Nat.{ℕ, ◌+◌, ◌≤◌}
use lib.ListN.{get_or}
use Rattle.script_fields.specs.Fields.{bit_of, binary}
use Rattle.script_fields.proofs.symbol_word.Given as goal

abbrev pub invariant-loop-at : goal.invariant-loop-at
invariant-loop-at l = (l.at ≤ 64) × (l.word ≡ binary (λ (j : ℕ). bit_of l.zeros (get_or l.field (l.from + j) 0)) l.at)
