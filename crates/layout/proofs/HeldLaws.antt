-- End theorems on what a layout holds: what copies, put-ins and emptyings do to it, to ids and to coherence.
use Rattle.std.specs.Prelude.{◌≡◌, true, false, ◌&&◌, ◌||◌, ◌↔◌, ◌⊎◌, ◌≢◌, List, eqb, length, get_or, set}
use Rattle.std.proofs.Common.{sym, ap, ◌∙◌, true≢false, ⊎_elim, arith, length-set, get_or-set_same, get_or-set_other, ne_eqb}
use Rattle.std.proofs.Math.Bool.{Bool, not, or-true}
use Rattle.std.proofs.Math.Logic.◌⊎◌.{inl, inr}
use Prim.Native.Nat.{ℕ, ◌<◌}
use Rattle.std.proofs.Math.Decide.{ℕ_discrete, dec_lt}
use Rattle.std.proofs.lemmas.Bool.{not-true, eqb-false}
use Rattle.search.specs.Search.{any}
use Rattle.search.specs.SearchLaws.{any_yes, any_some, and_law, decided}
use Rattle.layout.specs.Order.{Laws}
use Rattle.layout.proofs.WrittenLaws.{pairs_written}
use Rattle.layout.specs.Held.{filled, copied, Free, Unique, free, Coherent, emptied, Elsewhere, Held, NewId}

module _ {S : Type 0} (empty : S) (occupied : S → Bool) (same : S → S → Bool) where
  pub free_law : (t : List S) (j : ℕ) → (free empty occupied same t j ≡ true) ↔ Free empty occupied same t j
  unfolding free
  free_law t j = (λ e. forth (decided (occupied (get_or t j empty))) e, back)
    where
      other : ℕ → Bool
      other k = not (eqb k j) && same (get_or t k empty) (get_or t j empty)

      found : any other (length t) ≡ true → Elsewhere empty same t j
      found e =
          let r = any_yes other (length t) e in
          let k : ℕ = r.0 in
          let both = (and_law (not (eqb k j)) (same (get_or t k empty) (get_or t j empty))).0 r.2 in
          (k, r.1, eqb-false k j (not-true (eqb k j) both.0), both.1)

      forth : (occupied (get_or t j empty) ≡ true) ⊎ (occupied (get_or t j empty) ≡ false)
          → not (occupied (get_or t j empty)) || any other (length t) ≡ true → Free empty occupied same t j
      forth (inl o) e = inr (found (rw o at e))
      forth (inr o) e = inl o

      back : Free empty occupied same t j → not (occupied (get_or t j empty)) || any other (length t) ≡ true
      back (inl o) = rw o
      back (inr (k, b, d, s)) =
          let both = (and_law (not (eqb k j)) (same (get_or t k empty) (get_or t j empty))).1 (ap not (ne_eqb k j d), s) in
          let a : any other (length t) ≡ true = any_some other (length t) k b both in
          ap (λ (x : Bool). not (occupied (get_or t j empty)) || x) a ∙ or-true (not (occupied (get_or t j empty)))

module _ {S : Type 0} {empty : S} {occupied : S → Bool} {same misordered : S → S → Bool} (laws : Laws empty occupied same misordered) where
  -- an empty slot has no id
  pub same_vacant : (a b : S) → occupied b ≡ false → same a b ≡ false
  same_vacant a b o = ⊎_elim (λ e. absurd (true≢false (sym (laws.same_occupied b a (laws.same_symmetric a b e)) ∙ o))) (λ e. e) (decided (same a b))

  pub same_turned : (a b : S) → same a b ≡ false → same b a ≡ false
  same_turned a b e = ⊎_elim (λ s. absurd (true≢false (sym (laws.same_symmetric b a s) ∙ e))) (λ s. s) (decided (same b a))

  -- it is enough to compare each slot with the earlier ones
  pub unique_earlier : (t : List S) → ((x y : ℕ) → x < y → y < length t → same (get_or t x empty) (get_or t y empty) ≡ false) → Unique empty same t
  unique_earlier t f i k a b d = pick (dec_lt i k)
    where
      pick : Dec (i < k) → same (get_or t i empty) (get_or t k empty) ≡ false
      pick (yes l) = f i k l b
      pick (no l) = same_turned (get_or t k empty) (get_or t i empty) (f k i (omega arith) a)

  pub unique_coherent : (t : List S) → Unique empty same t → Coherent empty same t
  unique_coherent t u i k a b s = pick (ℕ_discrete i k)
    where
      pick : Dec (i ≡ k) → get_or t i empty ≡ get_or t k empty
      pick (yes e) = rw e
      pick (no n) = absurd (true≢false (sym s ∙ u i k a b n))

  -- a write of an entry whose id stands in no slot keeps each id where it is
  pub unique_written : (t : List S) (j : ℕ) (e : S) → j < length t → NewId empty same t e → Unique empty same t → Unique empty same (set t j e)
  unique_written t j e h new u i k a b d =
      let n : length (set t j e) ≡ length t = length-set t j e in
      pairs_written empty t j e h (λ x y a b. same a b ≡ false)
      (λ x l q. new x l) (λ x l q. same_turned (get_or t x empty) e (new x l))
      (λ x y l r p q f. u x y l r f) i k (omega arith) (omega arith) d

  -- so does emptying a slot
  pub unique_emptied : (t : List S) (j : ℕ) → j < length t → Unique empty same t → Unique empty same (emptied empty t j)
  unique_emptied t j h u = unique_written t j empty h (λ k b. same_vacant (get_or t k empty) empty laws.vacant) u

  -- a write keeps a layout coherent if its entry is equal to each entry of its id
  pub coherent_written : (t : List S) (j : ℕ) (e : S) → j < length t → Coherent empty same t
      → ((k : ℕ) → k < length t → same (get_or t k empty) e ≡ true → get_or t k empty ≡ e) → Coherent empty same (set t j e)
  coherent_written t j e h c f i k a b = pick (ℕ_discrete i k)
    where
      n : length (set t j e) ≡ length t
      n = length-set t j e

      pick : Dec (i ≡ k) → same (get_or (set t j e) i empty) (get_or (set t j e) k empty) ≡ true → get_or (set t j e) i empty ≡ get_or (set t j e) k empty
      pick (yes d) s = rw d
      pick (no d) s =
          pairs_written empty t j e h (λ x y a b. same a b ≡ true → a ≡ b) (λ x l q. f x l) (λ x l q s. sym (f x l (laws.same_symmetric e (get_or t x empty) s)))
          (λ x y l r p q g. c x y l r) i k (omega (arith, n)) (omega (arith, n)) d s

  pub coherent_copied : (t : List S) (f j : ℕ) → f < length t → j < length t → Coherent empty same t → Coherent empty same (copied empty t f j)
  coherent_copied t f j b h c = coherent_written t j (get_or t f empty) h c (λ k l s. c k f l b s)

  pub coherent_emptied : (t : List S) (j : ℕ) → j < length t → Coherent empty same t → Coherent empty same (emptied empty t j)
  coherent_emptied t j h c = coherent_written t j empty h c (λ k b s. absurd (true≢false (sym s ∙ same_vacant _ _ laws.vacant)))

  pub coherent_filled : (t : List S) (j : ℕ) (e : S) → j < length t → NewId empty same t e → Coherent empty same t → Coherent empty same (filled empty t j e)
  coherent_filled t j e h new c = coherent_written t j e h c (λ k b s. absurd (true≢false (sym s ∙ new k b)))

  -- of each entry held, a slot that may be written is not the only one
  pub held_outside : (t : List S) (j : ℕ) (x : S) → Coherent empty same t → j < length t → Free empty occupied same t j → Held empty occupied t x
      → (k : ℕ) × (k < length t) × (k ≢ j) × (get_or t k empty ≡ x)
  held_outside t j x c h f (o, (i, b, e)) = pick (ℕ_discrete i j) f
    where
      pick : Dec (i ≡ j) → Free empty occupied same t j → (k : ℕ) × (k < length t) × (k ≢ j) × (get_or t k empty ≡ x)
      pick (no d) f = (i, b, d, e)
      pick (yes d) (inl v) = absurd (true≢false (sym o ∙ (ap occupied (sym e) ∙ (ap (λ (i : ℕ). occupied (get_or t i empty)) d ∙ v))))
      pick (yes d) (inr (k, l, ne, s)) = (k, l, ne, c k j l h s ∙ (ap (λ (i : ℕ). get_or t i empty) (sym d) ∙ e))

  -- a write that loses no rule adds its entry, if that is occupied, and nothing else
  pub held_written : (t : List S) (j : ℕ) (e : S) → Coherent empty same t → j < length t → Free empty occupied same t j
      → (x : S) → Held empty occupied (set t j e) x ↔ (Held empty occupied t x ⊎ ((occupied e ≡ true) × (e ≡ x)))
  held_written t j e c h f x = (λ w. forth w.0 w.1.0 w.1.1 w.1.2 (ℕ_discrete w.1.0 j), back)
    where
      n : length (set t j e) ≡ length t
      n = length-set t j e

      forth : occupied x ≡ true → (i : ℕ) → i < length (set t j e) → get_or (set t j e) i empty ≡ x → Dec (i ≡ j)
          → Held empty occupied t x ⊎ ((occupied e ≡ true) × (e ≡ x))
      forth o i b q (yes d) =
          let w : e ≡ x = sym (get_or-set_same t j e empty h) ∙ (ap (λ (i : ℕ). get_or (set t j e) i empty) (sym d) ∙ q) in
          inr (ap occupied w ∙ o, w)
      forth o i b q (no d) = inl (o, (i, omega (arith, n), sym (get_or-set_other t j i e empty d) ∙ q))

      back : Held empty occupied t x ⊎ ((occupied e ≡ true) × (e ≡ x)) → Held empty occupied (set t j e) x
      back (inl w) =
          let r = held_outside t j x c h f w in
          (w.0, (r.0, omega (arith, n, r.1), get_or-set_other t j r.0 e empty r.2 ∙ r.3))
      back (inr (o, q)) = (ap occupied (sym q) ∙ o, (j, omega (arith, n), get_or-set_same t j e empty h ∙ q))

  -- a copy that fits leaves what is held as it was
  pub held_copied : (t : List S) (f j : ℕ) → Coherent empty same t → f < length t → j < length t → Free empty occupied same t j
      → (x : S) → Held empty occupied (copied empty t f j) x ↔ Held empty occupied t x
  held_copied t f j c b h v x =
      let r = held_written t j (get_or t f empty) c h v x in
      (λ w. ⊎_elim (λ y. y) (λ y. (ap occupied (sym y.1) ∙ y.0, (f, b, y.1))) (r.0 w), λ w. r.1 (inl w))

  -- so does the emptying of a slot whose id stands elsewhere
  pub held_emptied : (t : List S) (j : ℕ) → Coherent empty same t → j < length t → Elsewhere empty same t j
      → (x : S) → Held empty occupied (emptied empty t j) x ↔ Held empty occupied t x
  held_emptied t j c h v x =
      let r = held_written t j empty c h (inr v) x in
      (λ w. ⊎_elim (λ y. y) (λ y. absurd (true≢false (sym y.0 ∙ laws.vacant))) (r.0 w), λ w. r.1 (inl w))

  -- a put-in that fits adds its entry
  pub held_filled : (t : List S) (j : ℕ) (e : S) → Coherent empty same t → j < length t → Free empty occupied same t j → occupied e ≡ true
      → (x : S) → Held empty occupied (filled empty t j e) x ↔ (Held empty occupied t x ⊎ (e ≡ x))
  held_filled t j e c h v o x =
      let r = held_written t j e c h v x in
      (λ w. ⊎_elim (λ y. inl y) (λ y. inr y.1) (r.0 w), λ w. r.1 (⊎_elim (λ y. inl y) (λ y. inr (o, y)) w))

  -- a write to an id's only slot takes the entry there away, adds its own, if that is occupied, and nothing else
  pub held_replaced : (t : List S) (j : ℕ) (e : S) → j < length t
      → ((k : ℕ) → k < length t → k ≢ j → same (get_or t k empty) (get_or t j empty) ≡ false)
      → (x : S) → Held empty occupied (set t j e) x
      ↔ ((Held empty occupied t x × (same x (get_or t j empty) ≡ false)) ⊎ ((occupied e ≡ true) × (e ≡ x)))
  held_replaced t j e h only x = (λ w. forth w.0 w.1.0 w.1.1 w.1.2 (ℕ_discrete w.1.0 j), back)
    where
      n : length (set t j e) ≡ length t
      n = length-set t j e

      forth : occupied x ≡ true → (i : ℕ) → i < length (set t j e) → get_or (set t j e) i empty ≡ x → Dec (i ≡ j)
          → (Held empty occupied t x × (same x (get_or t j empty) ≡ false)) ⊎ ((occupied e ≡ true) × (e ≡ x))
      forth o i b q (yes d) =
          let w : e ≡ x = sym (get_or-set_same t j e empty h) ∙ (ap (λ (i : ℕ). get_or (set t j e) i empty) (sym d) ∙ q) in
          inr (ap occupied w ∙ o, w)
      forth o i b q (no d) =
          let w : get_or t i empty ≡ x = sym (get_or-set_other t j i e empty d) ∙ q in
          inl ((o, (i, omega (arith, n), w)), rw w at (only i (omega (arith, n)) d))

      kept : occupied x ≡ true → (i : ℕ) → i < length t → get_or t i empty ≡ x → same x (get_or t j empty) ≡ false → Dec (i ≡ j)
          → Held empty occupied (set t j e) x
      kept o i b q s (yes d) =
          let w : get_or t j empty ≡ x = ap (λ (i : ℕ). get_or t i empty) (sym d) ∙ q in
          absurd (true≢false (sym (laws.same_self x o) ∙ (ap (same x) (sym w) ∙ s)))
      kept o i b q s (no d) = (o, (i, omega (arith, n), get_or-set_other t j i e empty d ∙ q))

      back : (Held empty occupied t x × (same x (get_or t j empty) ≡ false)) ⊎ ((occupied e ≡ true) × (e ≡ x)) → Held empty occupied (set t j e) x
      back (inl w) = kept w.0.0 w.0.1.0 w.0.1.1 w.0.1.2 w.1 (ℕ_discrete w.0.1.0 j)
      back (inr (o, q)) = (ap occupied (sym q) ∙ o, (j, omega (arith, n), get_or-set_same t j e empty h ∙ q))

  -- the emptying of an id's only slot takes its entry away, and nothing else
  pub held_removed : (t : List S) (j : ℕ) → j < length t
      → ((k : ℕ) → k < length t → k ≢ j → same (get_or t k empty) (get_or t j empty) ≡ false)
      → (x : S) → Held empty occupied (emptied empty t j) x ↔ (Held empty occupied t x × (same x (get_or t j empty) ≡ false))
  held_removed t j h only x =
      let r = held_replaced t j empty h only x in
      (λ w. ⊎_elim (λ y. y) (λ y. absurd (true≢false (sym y.0 ∙ laws.vacant))) (r.0 w), λ w. r.1 (inl w))
