-- Laws on a column of ids, and on a map of those seen: what they say of check 3.
use Rattle.std.specs.Prelude.{◌≡◌, refl, Bool, true, false, not, ◌&&◌, ◌⊎◌, List, ℕ, ◌+◌, ◌<◌, ◌≤◌, ◌/◌, ◌%◌, eqb, length, get_or, set}
use Rattle.std.proofs.Common.{ap, ap₂, sym, ◌∙◌, true≢false, arith, get_or-set_same, get_or-set_other, eq-eqb, ne_eqb}
use Rattle.std.proofs.Math.Logic.◌⊎◌.{inl, inr}
use Rattle.std.proofs.Math.Decide.{ℕ_discrete}
use Rattle.search.specs.SearchLaws.{any_no, any_none, and_stop}
use Rattle.records.specs.Record.{slot_words, ident, empty, occupied}
use Rattle.records.specs.Order.{same_id}
use Rattle.records.specs.Checks.{twice_at}
use Rattle.ternary.specs.Bit.{bit}
use Rattle.bitmaps.specs.Flags.{on, marked}
use Rattle.bitmaps.specs.FlagsLaws.{Marked, marked_bit}
use Rattle.bitmaps.specs.FlagsLaws.Marked.{new, old}
use Rattle.table_checks.specs.Ids.{IdColumn, listed_twice, seen_at, with_seen, SeenTo}

-- one store more of a column that is filled from the front
pub column_more : (w : ℕ) (t ids : List ℕ) (n id : ℕ) → n < length ids → IdColumn w t ids n → id ≡ ident w (slot_words w t n)
    → IdColumn w t (set ids n id) (n + 1)
column_more w t ids n id h below e k l = pick (ℕ_discrete k n)
  where
    pick : Dec (k ≡ n) → get_or (set ids n id) k 0 ≡ ident w (slot_words w t k)
    pick (yes s) = rw s (get_or-set_same ids n id 0 h ∙ e)
    pick (no s) = get_or-set_other ids n k id 0 s ∙ below k (omega arith)

-- ids that differ in the column differ in the table
pub unlisted : (w : ℕ) (t ids : List ℕ) (n j : ℕ) → IdColumn w t ids n → j < n → listed_twice ids j ≡ false → twice_at w t j ≡ false
unfolding listed_twice twice_at same_id
unlisted w t ids n j column h e =
    any_none (λ (i : ℕ). same_id w (slot_words w t i) (slot_words w t j)) j
    (λ i l.
    sym
    (and_stop (occupied w (slot_words w t i) && occupied w (slot_words w t j)) (ap₂ eqb (column i (omega arith)) (column j h))
    (any_no (λ (i : ℕ). eqb (get_or ids i 0) (get_or ids j 0)) j e i l)))

-- an empty slot has no id to stand twice
pub empty_once : (w : ℕ) (t : List ℕ) (j : ℕ) → empty w (slot_words w t j) ≡ true → twice_at w t j ≡ false
unfolding twice_at same_id
empty_once w t j e =
    any_none (λ (i : ℕ). same_id w (slot_words w t i) (slot_words w t j)) j
    (λ i l. last (eqb (ident w (slot_words w t i)) (ident w (slot_words w t j))) (occupied w (slot_words w t i)) (empty w (slot_words w t j)) e)
  where
    last : (a b c : Bool) → c ≡ true → a && (b && not c) ≡ false
    last true true c h = ap not h
    last true false c h = refl
    last false b c h = refl

-- the bit that is set, and those that were
seen_kept : (seen : List ℕ) (id other : ℕ) → 128 ≤ length seen → (seen_at seen other ≡ true) ⊎ (other ≡ id) → seen_at (with_seen seen id) other ≡ true
unfolding seen_at on
seen_kept seen id other h e = by (marked_bit seen (id % 8192) (omega arith) (other % 8192 / 64) (other % 8192 % 64)) e
  where
    by : Marked seen (id % 8192) (other % 8192 / 64) (other % 8192 % 64) → (eqb (bit (get_or seen (other % 8192 / 64) 0) (other % 8192 % 64)) 1 ≡ true) ⊎ (other ≡ id)
        → eqb (bit (get_or (marked seen (id % 8192)) (other % 8192 / 64) 0) (other % 8192 % 64)) 1 ≡ true
    by (new q r b) d = eq-eqb _ 1 b
    by (old n b) (inl d) = rw b d
    by (old n b) (inr d) = absurd (n (ap (λ (x : ℕ). x % 8192 / 64) d) (ap (λ (x : ℕ). x % 8192 % 64) d))

-- the next entry's bit set
pub seen_more : (ids seen : List ℕ) (n : ℕ) → 128 ≤ length seen → SeenTo ids seen n → SeenTo ids (with_seen seen (get_or ids n 0)) (n + 1)
seen_more ids seen n h below k l = pick (ℕ_discrete k n)
  where
    pick : Dec (k ≡ n) → seen_at (with_seen seen (get_or ids n 0)) (get_or ids k 0) ≡ true
    pick (yes e) = seen_kept seen (get_or ids n 0) (get_or ids k 0) h (inr (ap (λ (x : ℕ). get_or ids x 0) e))
    pick (no e) = seen_kept seen (get_or ids n 0) (get_or ids k 0) h (inl (below k (omega arith)))

-- an entry whose bit is not set stands nowhere earlier
pub unseen : (ids seen : List ℕ) (n : ℕ) → SeenTo ids seen n → seen_at seen (get_or ids n 0) ≡ false → listed_twice ids n ≡ false
unfolding listed_twice
unseen ids seen n below e =
    any_none (λ (i : ℕ). eqb (get_or ids i 0) (get_or ids n 0)) n
    (λ i l. ne_eqb (get_or ids i 0) (get_or ids n 0) (λ q. true≢false (sym (below i l) ∙ (ap (seen_at seen) q ∙ e))))
