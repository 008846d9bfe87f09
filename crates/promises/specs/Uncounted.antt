-- Document 02, 2026-11: what it changes that a table is named as uncounted. One relation of two rules, `Overlapping`, asks the flag; order, ties, neighbours and
-- the class stand on it. The demands on uncounted tables are those of SecondDemand, ThirdDemand, Editions and Replacements with u = true, and each of them with
-- u = false is what was promised before.
use Rattle.std.specs.Prelude.{◌≡◌, Bool, true, false, ◌↔◌, List, ℕ, ◌≤◌, ◌<◌}
use Rattle.ternary.specs.Pattern.{Words, Overlap}
use Rattle.records.specs.Record.{value, mask, ident, action, rank, occupied}
use Rattle.records.specs.Order.{Overlapping, precedes, tied, misordered, InOrder}
use Rattle.marshalling.specs.Cells.{flag_of}
use Rattle.refusals.specs.Rows.{Accepts}
use Rattle.refusals.specs.Calls.{table_rows}

pub record Uncounted (w : ℕ) : Type 0 where
  -- how a C call names a table: 0 is counted, any other number uncounted
  pub zero : flag_of 0 ≡ false
  pub other : (n : ℕ) → (n ≡ 0 → ⊥) → flag_of n ≡ true
  -- which pairs a counted table orders: overlapping rules of different ids; an uncounted one those of them whose actions differ
  pub counted : (a b : Words)
      → Overlapping w false a b
      ↔ ((occupied w a ≡ true) × (occupied w b ≡ true) × (ident w a ≡ ident w b → ⊥) × Overlap w (value a) (mask w a) (value b) (mask w b))
  pub looser : (a b : Words) → Overlapping w true a b ↔ (Overlapping w false a b × (action w a ≡ action w b → ⊥))
  -- only in such a pair does one rule precede the other, or do equal ranks tie, or is the pair out of order
  pub precede : (u : Bool) (a b : Words) → (precedes w u a b ≡ true) ↔ (Overlapping w u a b × (rank w b < rank w a))
  pub tie : (u : Bool) (a b : Words) → (tied w u a b ≡ true) ↔ (Overlapping w u a b × (rank w a ≡ rank w b))
  pub misplace : (u : Bool) (a b : Words) → (misordered w u a b ≡ true) ↔ (Overlapping w u a b × (rank w a ≤ rank w b))
  -- a counted table in order is in order uncounted, and one that passes 1 to 4 passes them
  pub order : (t : List ℕ) → InOrder w false t → InOrder w true t
  pub passes : (t : List ℕ) → Accepts (table_rows w false t) → Accepts (table_rows w true t)
