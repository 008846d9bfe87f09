-- End theorems on the lower bound: no sequence of the comparison class has fewer writes than the cost of the new rule's slot plus 1.
-- Nothing is asked of the first layout but that its ids are unique: neither its order nor what its entries are.
use Rattle.std.specs.Prelude.{◌≡◌, refl, Bool, true, false, ◌⊎◌, ◌≢◌, List, ℕ, suc, ◌+◌, ◌-◌, ◌≤◌, ◌<◌, length, get_or, set}
use Rattle.std.proofs.Common.{sym, ap, ◌∙◌, subst, true≢false, ⊎_elim, arith, length-set, get_or-set_other}
use Rattle.std.proofs.Math.Logic.◌⊎◌.{inl, inr}
use Rattle.std.proofs.Math.Decide.{ℕ_discrete, dec_le}
use Rattle.search.specs.SearchLaws.{decided}
use Rattle.layout.specs.Order.{Laws, InOrder, Direction}
use Rattle.layout.specs.Held.{Held, Unique, Coherent, Free, copied}
use Rattle.layout.specs.Cost.{InWindow, Costs, WindowOrPast}
use Rattle.layout.specs.Write.{Write}
use Rattle.layout.specs.Class.{Sequence}
use Rattle.layout.proofs.WrittenLaws.{entry_written}
use Rattle.layout.proofs.OrderLaws.{toward_distinct, in_order_shows}
use Rattle.layout.proofs.HeldLaws.{unique_coherent, coherent_copied, held_outside, held_copied}

module _
    {S : Type 0} {empty : S} {occupied : S → Bool} {same misordered misplaced : S → S → Bool} {toward : ℕ → ℕ → Type 0}
    (laws : Laws empty occupied same misplaced) (direction : Direction empty misordered toward misplaced)
    (first : List S) (unique : Unique empty same first)
    {top : ℕ} {c : ℕ → ℕ} (law : Costs empty occupied toward misplaced first top c) (past : WindowOrPast empty toward misplaced first) where
  -- What is so after m copies: a slot that costs more than m still holds its first entry, whose id stands nowhere else; and each entry is
  -- still held, with no copy before its first slot.
  record Reached (m : ℕ) (t : List S) : Type 0 where
    slots : length t ≡ length first
    entry : (i : ℕ) → i < length first → m < c i → get_or t i empty ≡ get_or first i empty
    alone : (i k : ℕ) → i < length first → k < length first → m < c i → k ≢ i → same (get_or t k empty) (get_or first i empty) ≡ false
    coherent : Coherent empty same t
    held : (x : S) → Held empty occupied first x → Held empty occupied t x
    onward : (a k : ℕ) → a < length first → k < length first → same (get_or t k empty) (get_or first a empty) ≡ true → toward k a → ⊥

  reached_first : Reached 0 first
  reached_first = record {
    slots = refl;
    entry = λ i b h. refl;
    alone = λ i k b g h d. unique k i g b d;
    coherent = unique_coherent laws first unique;
    held = λ x h. h;
    onward = λ a k b g s l. true≢false (sym s ∙ unique k a g b (toward_distinct direction k a l));
  }

  -- a slot of positive cost was occupied
  costly : (j : ℕ) → j < length first → 0 < c j → occupied (get_or first j empty) ≡ true
  costly j b h = ⊎_elim (λ o. o) (λ o. absurd (omega (arith, law.vacant j b o))) (decided (occupied (get_or first j empty)))

  -- a slot that may be written costs no more than the copies made
  free_cheap : (m : ℕ) (t : List S) → Reached m t → (j : ℕ) → j < length first → Free empty occupied same t j → c j ≤ m
  free_cheap m t u j b f = pick (dec_le (c j) m) f
    where
      pick : Dec (c j ≤ m) → Free empty occupied same t j → c j ≤ m
      pick (yes h) f = h
      pick (no h) (inl v) = absurd (true≢false (sym (costly j b (omega arith)) ∙ (ap occupied (sym (u.entry j b (omega arith))) ∙ v)))
      pick (no h) (inr (k, l, d, s)) =
          absurd (true≢false (sym s ∙ (ap (same (get_or t k empty)) (u.entry j b (omega arith)) ∙ u.alone j k b (omega (arith, u.slots)) (omega arith) d)))

  -- what one write shows: a bound on the cost of its target, or of a dependant that it passes, is a bound on the copies made
  write_shows : (m : ℕ) (t : List S) → Reached m t → (j : ℕ) (e : S) → j < length first → Free empty occupied same t j
      → InOrder empty misordered (set t j e) → (b : ℕ)
      → (b ≤ c j) ⊎ ((y : ℕ) × (y < length first) × toward y j × (misplaced (get_or first y empty) e ≡ true) × (b ≤ c y)) → b ≤ m
  write_shows m t u j e h f o b (inl l) = omega (arith, free_cheap m t u j h f)
  write_shows m t u j e h f o b (inr (y, g, l, w, q)) = pick (dec_le (c y) m)
    where
      pick : Dec (c y ≤ m) → b ≤ m
      pick (yes r) = omega arith
      pick (no r) =
          let right = (in_order_shows direction t j e (omega (arith, u.slots)) o y (omega (arith, u.slots))).0 l in
          absurd (true≢false (sym w ∙ rw (u.entry y g (omega arith)) at right))

  -- one copy more
  module _ (m : ℕ) (t : List S) (u : Reached m t) (f j : ℕ) (a : f < length first) (b : j < length first) (l : toward f j)
      (v : Free empty occupied same t j) (o : InOrder empty misordered (copied empty t f j)) where
    -- an entry that costs more is not the one copied: it would have to pass a dependant that still stands
    not_copied : (i : ℕ) → i < length first → suc m < c i → same (get_or t f empty) (get_or first i empty) ≡ false
    not_copied i g h = pick (ℕ_discrete f i)
      where
        full : occupied (get_or first i empty) ≡ true
        full = costly i g (omega arith)

        turn : get_or t f empty ≡ get_or first i empty → InWindow empty toward misplaced first i j
            ⊎ ((y : ℕ) × InWindow empty toward misplaced first i y × toward y j × (misplaced (get_or first y empty) (get_or first i empty) ≡ true))
            → (c i - 1 ≤ c j) ⊎ ((y : ℕ) × (y < length first) × toward y j × (misplaced (get_or first y empty) (get_or t f empty) ≡ true) × (c i - 1 ≤ c y))
        turn e (inl w) = inl (omega (arith, law.within i j g full w))
        turn e (inr (y, w, r, d)) = inr (y, w.inside, r, rw e d, omega (arith, law.within i y g full w))

        pick : Dec (f ≡ i) → same (get_or t f empty) (get_or first i empty) ≡ false
        pick (no d) = u.alone i f g a (omega arith) d
        pick (yes d) =
            let moved : get_or t f empty ≡ get_or first i empty = ap (λ (z : ℕ). get_or t z empty) d ∙ u.entry i g (omega arith) in
            let cheap = write_shows m t u j (get_or t f empty) b v o (c i - 1) (turn moved (past i j g b (subst (λ (z : ℕ). toward z j) d l))) in
            absurd (omega arith)

    reached_copied : Reached (suc m) (copied empty t f j)
    reached_copied = record {
      slots = length-set t j (get_or t f empty) ∙ u.slots;
      entry = λ i g h.
          let other : i ≢ j = λ d. omega (arith, free_cheap m t u j b v, ap c d) in
          get_or-set_other t j i (get_or t f empty) empty other ∙ u.entry i g (omega arith);
      alone = λ i k g r h d.
          entry_written empty t j (get_or t f empty) to (λ k x. k ≢ i → same x (get_or first i empty) ≡ false) (λ d. not_copied i g h)
          (λ k r q d. u.alone i k g (omega (arith, u.slots)) (omega arith) d) k (omega (arith, u.slots)) d;
      coherent = coherent_copied laws t f j from to u.coherent;
      held = λ x h. (held_copied laws t f j u.coherent from to v x).1 (u.held x h);
      onward = λ i k g r s q.
          entry_written empty t j (get_or t f empty) to (λ k x. same x (get_or first i empty) ≡ true → toward k i → ⊥)
          (λ s q. u.onward i f g a s (direction.transitive f j i l q))
          (λ k r d s q. u.onward i k g (omega (arith, u.slots)) s q) k (omega (arith, u.slots)) s q;
    }
      where
        from : f < length t
        from = omega (arith, u.slots)

        to : j < length t
        to = omega (arith, u.slots)

  module _ (new : S) where
    -- the new rule is put in after each rule that precedes it: of that rule a copy is left, which does not stand before its first slot
    put_after : (m : ℕ) (t : List S) → Reached m t → (s : ℕ) → s < length first → Free empty occupied same t s → InOrder empty misordered (set t s new)
        → (a : ℕ) → a < length first → misplaced new (get_or first a empty) ≡ true → toward a s
    put_after m t u s b f o a g w = pick (ℕ_discrete a s)
      where
        full : occupied (get_or first a empty) ≡ true
        full = ⊎_elim (λ e. e) (λ e. absurd (true≢false (sym w ∙ laws.misordered_right new (get_or first a empty) e))) (decided (occupied (get_or first a empty)))

        inside : s < length t
        inside = omega (arith, u.slots)

        left : (k : ℕ) × (k < length t) × (k ≢ s) × (get_or t k empty ≡ get_or first a empty)
        left = held_outside laws t s (get_or first a empty) u.coherent inside f (u.held (get_or first a empty) (full, (a, g, refl)))

        k : ℕ
        k = left.0

        not_before : toward k a → ⊥
        not_before = u.onward a k g (omega (arith, u.slots, left.1)) (rw left.3 (laws.same_self (get_or first a empty) full))

        wrong : toward s k → ⊥
        wrong l = true≢false (sym w ∙ rw left.3 at ((in_order_shows direction t s new inside o k left.1).1 l))

        past_a : Dec (k ≡ a) → toward s a → ⊥
        past_a (yes d) l = wrong (subst (toward s) (sym d) l)
        past_a (no d) l = ⊎_elim not_before (λ r. wrong (direction.transitive s a k l r)) (direction.total k a d)

        pick : Dec (a ≡ s) → toward a s
        pick (yes d) = absurd (⊎_elim not_before (λ r. wrong (subst (λ (z : ℕ). toward z k) d r)) (direction.total k a (λ e. left.2 (e ∙ d))))
        pick (no d) = ⊎_elim (λ l. l) (λ l. absurd (past_a (ℕ_discrete k a) l)) (direction.total a s d)

    -- Of the new rule's cost d only this is asked: each slot after every rule that precedes the new one costs d or more, or stands past a
    -- dependant of the new rule whose slot does.
    module _ (d : ℕ)
        (choice : (s : ℕ) → s < length first → ((a : ℕ) → a < length first → misplaced new (get_or first a empty) ≡ true → toward a s)
        → (d ≤ c s) ⊎ ((y : ℕ) × (y < length first) × toward y s × (misplaced (get_or first y empty) new ≡ true) × (d ≤ c y))) where
      counted : (m : ℕ) {t : List S} {ws : List Write} → Reached m t → Sequence empty occupied same misordered toward new t ws → suc d ≤ m + length ws
      counted m {t} u (Sequence.last s b f o) =
          let g : s < length first = omega (arith, u.slots) in
          omega (arith, write_shows m t u s new g f o d (choice s g (put_after m t u s g f o)))
      counted m {t} u (Sequence.more from to a b l e f o rest) =
          let n : length t ≡ length first = u.slots in
          omega (arith, counted (suc m) (reached_copied m t u from to (omega arith) (omega arith) l f o) rest)

      -- a sequence toward this direction has more writes than d
      pub sequence_least : {ws : List Write} → Sequence empty occupied same misordered toward new first ws → suc d ≤ length ws
      sequence_least r = omega (arith, counted 0 reached_first r)
