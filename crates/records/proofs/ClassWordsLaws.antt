-- End theorems on the comparison class on plan words: the layout's class and the plain terms are the same.
use Rattle.std.specs.Prelude.{◌≡◌, refl, Bool, true, ◌↔◌, ◌⊎◌, List, [], ◌∷◌, map, ℕ, zero, suc, ◌<◌, length, get_or, take}
use Rattle.std.proofs.Common.{ap, subst, ⊎_elim, arith}
use Rattle.std.proofs.Math.Logic.◌⊎◌.{inl, inr}
use Rattle.layout.specs.Order.{Higher, Lower}
use Rattle.layout.specs.Write.{Write, copy, put, applied}
use Rattle.layout.specs.Class.{Sequence}
use Rattle.plan_words.specs.PlanWords.{write_of}
use Rattle.records.specs.Record.{record_of}
use Rattle.records.specs.Order.{InOrder}
use Rattle.records.specs.Entries.{vacant, entries, entry_occupied, entry_same, entry_misordered}
use Rattle.records.specs.Writes.{apply_word, apply_words, EntryFits, fits_word}
use Rattle.records.specs.declared.Rule.{Rule}
use Rattle.records.proofs.EntriesLaws.{EntriesInOrder, in_order_entries}
use Rattle.records.proofs.WritesLaws.{apply_entries, fits_write_law, fits_below}
use Rattle.records.specs.ClassWords.{InClassWords, ClassToward}

module _ (toward : ℕ → ℕ → Type 0) (irreflexive : (i : ℕ) → toward i i → ⊥) (w : ℕ) (u : Bool) (r : Rule) where
  -- the class's sequences from a layout of entries
  abbrev Sequences : List (List ℕ) → List Write → Type 0
  Sequences l xs = Sequence (vacant w) (entry_occupied w) (entry_same w) (entry_misordered w u) toward (record_of w r) l xs

  -- what the first write of a sequence is, and what follows
  abbrev First : List (List ℕ) → Write → List Write → Type 0
  First l x xs =
      ((to : ℕ) × (x ≡ put to) × (xs ≡ []))
      ⊎ ((from : ℕ) × (to : ℕ) × (x ≡ copy from to) × toward from to × Sequences (applied (vacant w) (record_of w r) l x) xs)

  first_of : {l : List (List ℕ)} {x : Write} {xs : List Write} → Sequences l (x ∷ xs)
      → EntryFits w l x × EntriesInOrder w u (applied (vacant w) (record_of w r) l x) × First l x xs
  first_of (Sequence.last to b f o) = ((b, f), o, inl (to, refl, refl))
  first_of (Sequence.more from to a b d e f o s) =
      ((a, b, λ n. irreflexive to (subst (λ (i : ℕ). toward i to) n d), e, f), o, inr (from, to, refl, d, s))

  of_first : (l : List (List ℕ)) (x : Write) (xs : List Write)
      → EntryFits w l x → EntriesInOrder w u (applied (vacant w) (record_of w r) l x) → First l x xs → Sequences l (x ∷ xs)
  of_first l x xs f o (inl (to, e, n)) =
      let g : EntryFits w l (put to) = rw e at f in
      let p : EntriesInOrder w u (applied (vacant w) (record_of w r) l (put to)) = rw e at o in
      rw (e, n) (Sequence.last to g.0 g.1 p)
  of_first l x xs f o (inr (from, to, e, d, s)) =
      let g : EntryFits w l (copy from to) = rw e at f in
      let p : EntriesInOrder w u (applied (vacant w) (record_of w r) l (copy from to)) = rw e at o in
      let q : Sequences (applied (vacant w) (record_of w r) l (copy from to)) xs = rw e at s in
      rw e (Sequence.more from to g.0 g.1 d g.3 g.4 p q)

  sequence_some : {l : List (List ℕ)} {xs : List Write} → Sequences l xs → 0 < length xs
  sequence_some (Sequence.last to b f o) = omega arith
  sequence_some (Sequence.more from to a b d e f o s) = omega arith

  -- a class of words, built from its end
  class_one : (t : List ℕ) (n to : ℕ) → write_of n ≡ put to → fits_word w t n ≡ true → InOrder w u (apply_word w t r n) → ClassToward toward w u t r (n ∷ [])
  class_one t n to e f o = record { some = omega arith; copies = λ k h. absurd (omega arith); last = last; fits = fits; order = order }
    where
      last : (k : ℕ) → suc k ≡ 1 → (to : ℕ) × (write_of (get_or (n ∷ []) k 0) ≡ put to)
      last zero h = (to, e)
      last (suc k) h = absurd (omega arith)

      fits : (k : ℕ) → k < 1 → fits_word w (apply_words w t r (take k (n ∷ []))) (get_or (n ∷ []) k 0) ≡ true
      fits zero h = f
      fits (suc k) h = absurd (omega arith)

      order : (k : ℕ) → k < 1 → InOrder w u (apply_words w t r (take (suc k) (n ∷ [])))
      order zero h = o
      order (suc k) h = absurd (omega arith)

  class_more : (t : List ℕ) (n from to : ℕ) (ns : List ℕ) → write_of n ≡ copy from to → toward from to → fits_word w t n ≡ true → InOrder w u (apply_word w t r n)
      → ClassToward toward w u (apply_word w t r n) r ns → ClassToward toward w u t r (n ∷ ns)
  class_more t n from to ns e d f o c = record { some = omega arith; copies = copies; last = last; fits = fits; order = order }
    where
      copies : (k : ℕ) → suc k < suc (length ns) → (from : ℕ) × (to : ℕ) × (write_of (get_or (n ∷ ns) k 0) ≡ copy from to) × toward from to
      copies zero h = (from, to, e, d)
      copies (suc k) h = c.copies k (omega arith)

      last : (k : ℕ) → suc k ≡ suc (length ns) → (to : ℕ) × (write_of (get_or (n ∷ ns) k 0) ≡ put to)
      last zero h = absurd (omega (arith, c.some))
      last (suc k) h = c.last k (omega arith)

      fits : (k : ℕ) → k < suc (length ns) → fits_word w (apply_words w t r (take k (n ∷ ns))) (get_or (n ∷ ns) k 0) ≡ true
      fits zero h = f
      fits (suc k) h = c.fits k (omega arith)

      order : (k : ℕ) → k < suc (length ns) → InOrder w u (apply_words w t r (take (suc k) (n ∷ ns)))
      order zero h = o
      order (suc k) h = c.order k (omega arith)

  -- the layout after a word that fits
  after_word : (t : List ℕ) (n : ℕ) → fits_word w t n ≡ true → entries w (apply_word w t r n) ≡ applied (vacant w) (record_of w r) (entries w t) (write_of n)
  after_word t n f = apply_entries w t r (write_of n) (fits_below w t (write_of n) f)

  words_of : (t : List ℕ) (ns : List ℕ) → Sequences (entries w t) (map write_of ns) → ClassToward toward w u t r ns
  words_of t [] s = absurd (omega (arith, sequence_some s))
  words_of t (n ∷ ns) s = pick ns (first_of s).2 (words_of (apply_word w t r n) ns)
    where
      ok : fits_word w t n ≡ true
      ok = (fits_write_law w t (write_of n)).1 (first_of s).0

      ordered : InOrder w u (apply_word w t r n)
      ordered = (in_order_entries w u (apply_word w t r n)).0 (rw (after_word t n ok) (first_of s).1)

      pick : (ns : List ℕ) → First (entries w t) (write_of n) (map write_of ns)
          → (Sequences (entries w (apply_word w t r n)) (map write_of ns) → ClassToward toward w u (apply_word w t r n) r ns) → ClassToward toward w u t r (n ∷ ns)
      pick [] (inl (to, e, z)) g = class_one t n to e ok ordered
      pick (m ∷ ms) (inl (to, e, z)) g = absurd (omega (arith, ap length z))
      pick ns (inr (from, to, e, d, s)) g = class_more t n from to ns e d ok ordered (g (rw (after_word t n ok) s))

  of_words : (t : List ℕ) (ns : List ℕ) → ClassToward toward w u t r ns → Sequences (entries w t) (map write_of ns)
  of_words t [] c = absurd (omega (arith, c.some))
  of_words t (n ∷ ns) c = of_first (entries w t) (write_of n) (map write_of ns) ((fits_write_law w t (write_of n)).0 ok) ordered (pick ns c (of_words (apply_word w t r n) ns))
    where
      ok : fits_word w t n ≡ true
      ok = c.fits 0 (omega arith)

      ordered : EntriesInOrder w u (applied (vacant w) (record_of w r) (entries w t) (write_of n))
      ordered = rw (after_word t n ok) at ((in_order_entries w u (apply_word w t r n)).1 (c.order 0 (omega arith)))

      pick : (ns : List ℕ) → ClassToward toward w u t r (n ∷ ns)
          → (ClassToward toward w u (apply_word w t r n) r ns → Sequences (entries w (apply_word w t r n)) (map write_of ns))
          → First (entries w t) (write_of n) (map write_of ns)
      pick [] c g = let l = c.last 0 refl in inl (l.0, l.1, refl)
      pick (m ∷ ms) c g =
          let l = c.copies 0 (omega arith) in
          let rest : ClassToward toward w u (apply_word w t r n) r (m ∷ ms) = record {
            some = omega arith;
            copies = λ k h. c.copies (suc k) (omega arith);
            last = λ k h. c.last (suc k) (omega arith);
            fits = λ k h. c.fits (suc k) (omega arith);
            order = λ k h. c.order (suc k) (omega arith);
          } in
          inr (l.0, l.1, l.2, l.3, rw (after_word t n ok) at (g rest))

-- the class says just that, both ways
pub class_words_law : (w : ℕ) (u : Bool) (t : List ℕ) (r : Rule) (ns : List ℕ) → InClassWords w u t r ns ↔ (ClassToward Higher w u t r ns ⊎ ClassToward Lower w u t r ns)
class_words_law w u t r ns = (
  ⊎_elim (λ s. inl (words_of Higher (λ i l. omega arith) w u r t ns s)) (λ s. inr (words_of Lower (λ i l. omega arith) w u r t ns s)),
  ⊎_elim (λ c. inl (of_words Higher (λ i l. omega arith) w u r t ns c)) (λ c. inr (of_words Lower (λ i l. omega arith) w u r t ns c)),
)
