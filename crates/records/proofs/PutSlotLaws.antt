-- Laws on a record put into a slot: the table keeps its number of words, each other slot its record, and the layout has the record as that entry.
-- Every write of a plan is such a store.
use Rattle.std.specs.Prelude.{◌≡◌, ◌≢◌, take}
use Rattle.std.proofs.Common.{sym, ◌∙◌, mul-le-mul_right, length-set, length-take-le, get_or-drop, get_or-set_same, get_or-set_other, ext_get_or}
use Rattle.std.proofs.Math.Path.{ap}
use mathlib.Core.List.{List, ◌++◌}
use Prim.Native.Nat.{ℕ, suc, ◌+◌, ◌-◌, ◌*◌, ◌/◌, ◌≤◌, ◌<◌}
use Rattle.std.proofs.Math.Decide.{ℕ_discrete, dec_lt}
use native.Mathlib.Omega.{arith}
use Rattle.std.proofs.Math.ListN.{length, get_or, set, drop, length-append, length-drop, get_or-append}
use Rattle.std.proofs.Math.Seq.{get_or-append-add, get_or-take, set-append_left}
use Rattle.records.specs.Record.{word, record_words, slot_words, put_slot}
use Rattle.records.specs.Order.{slots}
use Rattle.records.proofs.Laws.{slot_within}
use Rattle.records.specs.Entries.{vacant, entry_at, entries, SameRecord}
use Rattle.records.proofs.RulesLaws.{set_behind, listed_words, listed_cong}
use Rattle.records.proofs.EntriesLaws.{entries_length, entry_at_lem}

module _ (w : ℕ) (t : List ℕ) (i : ℕ) (x : List ℕ) (inside : i < slots w t) (whole : length x ≡ record_words w) where
  start : length (take (i * record_words w) t) ≡ i * record_words w
  start = length-take-le (i * record_words w) t (omega (arith, slot_within w t i inside))

  front : length (take (i * record_words w) t ++ x) ≡ i * record_words w + record_words w
  front = length-append (take (i * record_words w) t) x ∙ omega (arith, start)

  pub put_length : length (put_slot w t i x) ≡ length t
  unfolding put_slot
  put_length =
      length-append (take (i * record_words w) t ++ x) (drop (i * record_words w + record_words w) t)
      ∙ omega (arith, front, length-drop (i * record_words w + record_words w) t, slot_within w t i inside)

  pub put_slots : slots w (put_slot w t i x) ≡ slots w t
  put_slots = ap (λ (n : ℕ). n / record_words w) put_length

  -- the slot has the record's words
  pub put_here : SameRecord w (slot_words w (put_slot w t i x) i) (word x)
  unfolding put_slot
  put_here j h =
      get_or-append (take (i * record_words w) t ++ x) (drop (i * record_words w + record_words w) t) 0 (i * record_words w + j) (omega (arith, front))
      ∙ (ap (λ (k : ℕ). get_or (take (i * record_words w) t ++ x) (k + j) 0) (sym start) ∙ get_or-append-add (take (i * record_words w) t) x j 0)

  before : (k : ℕ) → k < i * record_words w → get_or (put_slot w t i x) k 0 ≡ get_or t k 0
  unfolding put_slot
  before k h =
      get_or-append (take (i * record_words w) t ++ x) (drop (i * record_words w + record_words w) t) 0 k (omega (arith, front))
      ∙ (get_or-append (take (i * record_words w) t) x 0 k (omega (arith, start)) ∙ get_or-take (i * record_words w) t k 0 h)

  after : (k : ℕ) → i * record_words w + record_words w ≤ k → get_or (put_slot w t i x) k 0 ≡ get_or t k 0
  unfolding put_slot
  after k h =
      let m : ℕ = k - (i * record_words w + record_words w) in
      let there : length (take (i * record_words w) t ++ x) + m ≡ k = omega (arith, front) in
      let back : i * record_words w + record_words w + m ≡ k = omega arith in
      ap (λ (n : ℕ). get_or (take (i * record_words w) t ++ x ++ drop (i * record_words w + record_words w) t) n 0) (sym there)
      ∙ (get_or-append-add (take (i * record_words w) t ++ x) (drop (i * record_words w + record_words w) t) m 0
      ∙ (get_or-drop (i * record_words w + record_words w) t m 0 ∙ ap (λ (n : ℕ). get_or t n 0) back))

  -- a word stored in the slot is stored in the record
  pub put_word : (j v : ℕ) → j < record_words w → set (put_slot w t i x) (i * record_words w + j) v ≡ put_slot w t i (set x j v)
  unfolding put_slot
  put_word j v h =
      set-append_left (take (i * record_words w) t ++ x) (drop (i * record_words w + record_words w) t) (i * record_words w + j) v (omega (arith, front))
      ∙ ap (λ (l : List ℕ). l ++ drop (i * record_words w + record_words w) t)
      (ap (λ (k : ℕ). set (take (i * record_words w) t ++ x) (k + j) v) (sym start) ∙ set_behind (take (i * record_words w) t) x j v)

  -- each other slot keeps its words
  pub put_other : (k : ℕ) → k ≢ i → SameRecord w (slot_words w (put_slot w t i x) k) (slot_words w t k)
  put_other k d j h = pick (dec_lt k i)
    where
      pick : Dec (k < i) → get_or (put_slot w t i x) (k * record_words w + j) 0 ≡ get_or t (k * record_words w + j) 0
      pick (yes l) = before (k * record_words w + j) (omega (arith, mul-le-mul_right (record_words w) l))
      pick (no l) =
          let r : suc i ≤ k = omega arith in
          after (k * record_words w + j) (omega (arith, mul-le-mul_right (record_words w) r))

  -- so the layout has the record as its entry, and its other entries as they were
  pub entries_put : entries w (put_slot w t i x) ≡ set (entries w t) i x
  entries_put =
      ext_get_or (vacant w) (entries w (put_slot w t i x)) (set (entries w t) i x) (new ∙ (put_slots ∙ sym (length-set (entries w t) i x ∙ old)))
      (λ k l. pick k (let e = new in let s = put_slots in omega arith) (ℕ_discrete k i))
    where
      new : length (entries w (put_slot w t i x)) ≡ slots w (put_slot w t i x)
      new = entries_length w (put_slot w t i x)

      old : length (entries w t) ≡ slots w t
      old = entries_length w t

      read : (k : ℕ) → k < slots w t → get_or (entries w (put_slot w t i x)) k (vacant w) ≡ entry_at w (put_slot w t i x) k
      read k l = entry_at_lem w (put_slot w t i x) k (let s = put_slots in omega arith)

      pick : (k : ℕ) → k < slots w t → Dec (k ≡ i) → get_or (entries w (put_slot w t i x)) k (vacant w) ≡ get_or (set (entries w t) i x) k (vacant w)
      pick k l (yes e) =
          rw e (read i inside ∙ (listed_cong (record_words w) put_here ∙ (listed_words (record_words w) x whole
          ∙ sym (get_or-set_same (entries w t) i x (vacant w) (let n = old in omega arith)))))
      pick k l (no d) =
          read k l ∙ (listed_cong (record_words w) (put_other k d) ∙ (sym (entry_at_lem w t k l)
          ∙ sym (get_or-set_other (entries w t) i k x (vacant w) d)))
