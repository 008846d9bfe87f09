-- End theorems on a chain's writes, far end first: each fits, and leaves the layout in order with each old entry held.
-- Costs play no part here; any chain will do.
use Rattle.std.specs.Prelude.{◌≡◌, refl, Bool, true, false, ◌⊎◌, ◌≢◌, ℕ, zero, suc, ◌≤◌, ◌<◌, get_or, take}
use Rattle.std.proofs.Common.{sym, ap, ◌∙◌, subst, true≢false, ⊎_elim, arith, length-set, get_or-set_same, get_or-set_other, take_all, take_at}
use Rattle.std.proofs.Math.Logic.◌⊎◌.{inl, inr}
use mathlib.Core.List.{List, [], ◌∷◌, ◌++◌}
use Rattle.std.proofs.Math.Decide.{ℕ_discrete, dec_le, dec_lt}
use Rattle.std.proofs.Math.ListN.{length, length-append, get_or-append}
use Rattle.std.proofs.lemmas.List.{take-append-le, get_or_at}
use Rattle.std.proofs.Math.Seq.{take-nil, append_snoc}
use Rattle.layout.specs.Order.{Laws, InOrder, Direction}
use Rattle.layout.specs.Held.{Unique, NewId, OnePair, Free, copied, filled}
use Rattle.layout.specs.Cost.{InWindow}
use Rattle.layout.specs.Chain.{Chain}
use Rattle.layout.specs.Write.{Write, copy, put, clear, carried, Fits, moves}
use Rattle.layout.specs.Class.{Sequence, last, more}
use Rattle.layout.proofs.WrittenLaws.{pairs_written}
use Rattle.layout.proofs.OrderLaws.{asymmetric, toward_distinct, in_order_put}
use Rattle.layout.proofs.HeldLaws.{same_turned, unique_coherent, held_filled}
use Rattle.layout.proofs.ChainLaws.{chain_inside}
use Rattle.layout.proofs.WriteLaws.{carried_append}
use Rattle.layout.specs.Valid.{Placed, Between}

module _
    {S : Type 0} {empty : S} {occupied : S → Bool} {same misordered misplaced : S → S → Bool} {toward : ℕ → ℕ → Type 0}
    (laws : Laws empty occupied same misplaced) (direction : Direction empty misordered toward misplaced)
    (first : List S) (ordered : InOrder empty misordered first) (unique : Unique empty same first) where
  -- The layout after a chain's copies from slot s on: the slots up to s are as they were, and the entry of s is held elsewhere too.
  record Moved (s : ℕ) (u : List S) : Type 0 where
    slots : length u ≡ length first
    order : InOrder empty misordered u
    free : Free empty occupied same u s
    before : (y : ℕ) → y < length first → (toward s y → ⊥) → get_or u y empty ≡ get_or first y empty
    -- what stands at s or after it came from there
    origin : (y : ℕ) → y < length first → (z : ℕ) × (z < length first) × (get_or u y empty ≡ get_or first z empty) × ((toward y s → ⊥) → toward z s → ⊥)
    apart : (i k : ℕ) → i < length first → k < length first → i ≢ k → i ≢ s → k ≢ s → same (get_or u i empty) (get_or u k empty) ≡ false
    kept : (i : ℕ) → i < length first → occupied (get_or first i empty) ≡ true → (k : ℕ) × (k < length first) × (k ≢ s) × (get_or u k empty ≡ get_or first i empty)

  moved_none : (s : ℕ) → s < length first → occupied (get_or first s empty) ≡ false → Moved s first
  moved_none s b o = record {
    slots = refl;
    order = ordered;
    free = inl o;
    before = λ y g l. refl;
    origin = λ y g. (y, g, refl, λ l. l);
    apart = λ i k a g d l r. unique i k a g d;
    kept = λ i a e. (i, a, λ d. true≢false (sym e ∙ (ap (λ (z : ℕ). occupied (get_or first z empty)) d ∙ o)), refl);
  }

  -- one copy more: from s to j, where the chain from j has been carried out
  module _ (s j : ℕ) (u : List S) (b : s < length first) (full : occupied (get_or first s empty) ≡ true)
      (w : InWindow empty toward misplaced first s j) (m : Moved j u) where
    onward : s ≢ j
    onward = toward_distinct direction s j w.after

    inside : j < length u
    inside = omega (arith, m.slots, w.inside)

    source : get_or u s empty ≡ get_or first s empty
    source = m.before s b (asymmetric direction s j w.after)

    abbrev v : List S
    v = copied empty u s j

    there : get_or v j empty ≡ get_or first s empty
    there = get_or-set_same u j (get_or u s empty) empty inside ∙ source

    elsewhere : (y : ℕ) → y ≢ j → get_or v y empty ≡ get_or u y empty
    elsewhere y d = get_or-set_other u j y (get_or u s empty) empty d

    itself : same (get_or first s empty) (get_or first s empty) ≡ true
    itself = laws.same_self (get_or first s empty) full

    -- the copy stands right: before s and past j as the entry of s does, between the two by the window
    in_order : InOrder empty misordered v
    in_order =
        in_order_put direction u j (get_or u s empty) inside m.order (λ x a l. before x a l (ℕ_discrete x s))
        (λ y a l. direction.along u m.order s y (omega (arith, m.slots)) a (direction.transitive s j y w.after l))
      where
        before : (x : ℕ) → x < length u → toward x j → Dec (x ≡ s) → misplaced (get_or u x empty) (get_or u s empty) ≡ false
        before x a l (yes d) = rw (d, source) (laws.misordered_same (get_or first s empty) (get_or first s empty) itself)
        before x a l (no d) = ⊎_elim (λ r. direction.along u m.order x s a (omega (arith, m.slots)) r) (λ r. between r) (direction.total x s d)
          where
            between : toward s x → misplaced (get_or u x empty) (get_or u s empty) ≡ false
            between r =
                let h : x < length first = omega (arith, m.slots) in
                rw (m.before x h (asymmetric direction x j l), source) (w.between x h r l)

    moved_link : Moved s v
    moved_link = record {
      slots = length-set u j (get_or u s empty) ∙ m.slots;
      order = in_order;
      free = inr (j, omega (arith, inside, length-set u j (get_or u s empty)), λ d. onward (sym d), rw (there, elsewhere s onward, source) itself);
      before = λ y g l. elsewhere y (λ d. l (subst (toward s) (sym d) w.after)) ∙ m.before y g (λ r. l (direction.transitive s j y w.after r));
      origin = λ y g. from y g (ℕ_discrete y j);
      apart = λ i k a g d.
          pairs_written empty u j (get_or u s empty) inside (λ i k a b. i ≢ s → k ≢ s → same a b ≡ false)
          (λ k g q l r. same_turned laws (get_or u s empty) (get_or u k empty) (copy_alone k (omega (arith, m.slots)) l q))
          (λ k g q l r. copy_alone k (omega (arith, m.slots)) r q)
          (λ i k a g p q d l r. m.apart i k (omega (arith, m.slots)) (omega (arith, m.slots)) d p q) i k (omega (arith, m.slots)) (omega (arith, m.slots)) d;
      kept = λ i a o. held i (m.kept i a o);
    }
      where
        from : (y : ℕ) → y < length first → Dec (y ≡ j) → (z : ℕ) × (z < length first) × (get_or v y empty ≡ get_or first z empty) × ((toward y s → ⊥) → toward z s → ⊥)
        from y g (yes d) = (s, b, rw d there, λ l. direction.irreflexive s)
        from y g (no d) = ⊎_elim
            (λ l. (y, g, elsewhere y d ∙ m.before y g (asymmetric direction y j l), λ r. r))
            (λ l. let q = m.origin y g in (q.0, q.1, elsewhere y d ∙ q.2, λ r x. q.3 (asymmetric direction j y l) (direction.transitive q.0 s j x w.after)))
            (direction.total y j d)

        -- the id of s stands at s and j only
        copy_alone : (k : ℕ) → k < length first → k ≢ s → k ≢ j → same (get_or u s empty) (get_or u k empty) ≡ false
        copy_alone k g l r = m.apart s k b g (λ e. l (sym e)) onward r

        held : (i : ℕ) → (k : ℕ) × (k < length first) × (k ≢ j) × (get_or u k empty ≡ get_or first i empty)
            → (k : ℕ) × (k < length first) × (k ≢ s) × (get_or v k empty ≡ get_or first i empty)
        held i (k, g, d, e) = pick (ℕ_discrete k s)
          where
            pick : Dec (k ≡ s) → (k : ℕ) × (k < length first) × (k ≢ s) × (get_or v k empty ≡ get_or first i empty)
            pick (no l) = (k, g, l, elsewhere k d ∙ e)
            pick (yes l) = (j, w.inside, λ q. onward (sym q), there ∙ (sym source ∙ (ap (λ (z : ℕ). get_or u z empty) (sym l) ∙ e)))

  module _ (s : ℕ) (b : s < length first) (u : List S) (m : Moved s u) where
    -- the slot that shares the id of s is one only
    partner : (i k : ℕ) → i < length first → k < length first → i ≢ s → k ≢ s
        → same (get_or u i empty) (get_or u s empty) ≡ true → same (get_or u k empty) (get_or u s empty) ≡ true → i ≡ k
    partner i k a g l r e f = pick (ℕ_discrete i k)
      where
        pick : Dec (i ≡ k) → i ≡ k
        pick (yes d) = d
        pick (no d) = absurd (true≢false (sym (laws.same_transitive _ _ _ e (laws.same_symmetric _ _ f)) ∙ m.apart i k a g d l r))

    -- of two slots with one id, one is s
    one_is : (i k : ℕ) → i < length first → k < length first → i ≢ k → same (get_or u i empty) (get_or u k empty) ≡ true → (i ≡ s) ⊎ (k ≡ s)
    one_is i k a g d e = pick (ℕ_discrete i s) (ℕ_discrete k s)
      where
        pick : Dec (i ≡ s) → Dec (k ≡ s) → (i ≡ s) ⊎ (k ≡ s)
        pick (yes p) q = inl p
        pick (no p) (yes q) = inr q
        pick (no p) (no q) = absurd (true≢false (sym e ∙ m.apart i k a g d p q))

    pairs : OnePair empty same u
    pairs i k p q l a r c e f =
        pick (one_is i k (omega (arith, n)) (omega (arith, n)) (omega arith) e) (one_is p q (omega (arith, n)) (omega (arith, n)) (omega arith) f)
      where
        n : length u ≡ length first
        n = m.slots

        turn : (x y : ℕ) → x ≡ s → same (get_or u x empty) (get_or u y empty) ≡ true → same (get_or u y empty) (get_or u s empty) ≡ true
        turn x y d e = laws.same_symmetric _ _ (rw d at e)

        keep : (x y : ℕ) → y ≡ s → same (get_or u x empty) (get_or u y empty) ≡ true → same (get_or u x empty) (get_or u s empty) ≡ true
        keep x y d e = rw d at e

        pick : (i ≡ s) ⊎ (k ≡ s) → (p ≡ s) ⊎ (q ≡ s) → (i ≡ p) × (k ≡ q)
        pick (inl x) (inl y) = (x ∙ sym y, partner k q (omega (arith, n)) (omega (arith, n)) (omega arith) (omega arith) (turn i k x e) (turn p q y f))
        pick (inr x) (inr y) = (partner i p (omega (arith, n)) (omega (arith, n)) (omega arith) (omega arith) (keep i k x e) (keep p q y f), x ∙ sym y)
        pick (inl x) (inr y) =
            let z = partner k p (omega (arith, n)) (omega (arith, n)) (omega arith) (omega arith) (turn i k x e) (keep p q y f) in absurd (omega arith)
        pick (inr x) (inl y) =
            let z = partner i q (omega (arith, n)) (omega (arith, n)) (omega arith) (omega arith) (keep i k x e) (turn p q y f) in absurd (omega arith)

    moved_between : Between empty occupied same misordered first u
    moved_between = record {
      slots = m.slots;
      order = m.order;
      held = λ x. (
        λ h. let z = m.origin h.1.0 (omega (arith, m.slots, h.1.1)) in (h.0, (z.0, z.1, sym z.2 ∙ h.1.2)),
        λ h. let z = m.kept h.1.0 h.1.1 (ap occupied h.1.2 ∙ h.0) in (h.0, (z.0, omega (arith, m.slots, z.1), z.3 ∙ h.1.2)),
      );
      coherent = λ i k a g e.
          let p = m.origin i (omega (arith, m.slots)) in
          let q = m.origin k (omega (arith, m.slots)) in
          p.2 ∙ (unique_coherent laws first unique p.0 q.0 p.1 q.1 (rw (p.2, q.2) at e) ∙ sym q.2);
      doubled = pairs;
    }

  -- the chain's copies lead there
  chain_moved : (new : S) {s : ℕ} {rest : List ℕ} → Chain empty occupied toward misplaced first s rest → Moved s (carried empty new first (moves s rest))
  unfolding moves
  chain_moved new {s} (Chain.stop b o) = moved_none s b o
  chain_moved new {s} (Chain.link {j = j} {rest = rest} b o w k) =
      rw (carried_append empty new first (moves j rest) (copy s j ∷ [])) (moved_link s j (carried empty new first (moves j rest)) b o w (chain_moved new k))

  -- after each of them the layout is in order and holds what it held, at most one entry twice
  pub chain_between : (new : S) {s : ℕ} {rest : List ℕ} → Chain empty occupied toward misplaced first s rest
      → (k : ℕ) → Between empty occupied same misordered first (carried empty new first (take k (moves s rest)))
  unfolding moves
  chain_between new {s} (Chain.stop b o) k = rw (take-nil {A = Write} k) (moved_between s b first (moved_none s b o))
  chain_between new {s} (Chain.link {j = j} {rest = rest} b o w x) k = pick (dec_le k (length (moves j rest))) (chain_between new x k)
    where
      pick : Dec (k ≤ length (moves j rest)) → Between empty occupied same misordered first (carried empty new first (take k (moves j rest)))
          → Between empty occupied same misordered first (carried empty new first (take k (moves s (j ∷ rest))))
      pick (yes h) r = rw (take-append-le k (moves j rest) (copy s j ∷ []) h) r
      pick (no h) r =
          let n : length (moves s (j ∷ rest)) ≤ k = omega (arith, length-append (moves j rest) (copy s j ∷ [])) in
          rw (take_all k (moves s (j ∷ rest)) n) (moved_between s b _ (chain_moved new (Chain.link b o w x)))

  -- each of them is a copy toward the chain's end that fits
  pub chain_fits : (new : S) {s : ℕ} {rest : List ℕ} → Chain empty occupied toward misplaced first s rest → (k : ℕ) → k < length (moves s rest)
      → (from : ℕ) × (to : ℕ) × (get_or (moves s rest) k (clear 0) ≡ copy from to) × toward from to
      × Fits empty occupied same (carried empty new first (take k (moves s rest))) (copy from to)
  unfolding moves
  chain_fits new (Chain.stop b o) k h = absurd (omega arith)
  chain_fits new {s} (Chain.link {j = j} {rest = rest} b o w x) k h = pick (dec_lt k (length ws)) (chain_fits new x k)
    where
      ws : List Write
      ws = moves j rest

      u : List S
      u = carried empty new first ws

      m : Moved j u
      m = chain_moved new x

      here : Fits empty occupied same u (copy s j)
      here = (omega (arith, m.slots), omega (arith, m.slots, w.inside), toward_distinct direction s j w.after, ap occupied (source s j u b o w m) ∙ o, m.free)

      Stepped : List Write → Type 0
      Stepped vs =
          (from : ℕ) × (to : ℕ) × (get_or vs k (clear 0) ≡ copy from to) × toward from to × Fits empty occupied same (carried empty new first (take k vs)) (copy from to)

      pick : Dec (k < length ws) → (k < length ws → Stepped ws) → Stepped (ws ++ (copy s j ∷ []))
      pick (yes l) ih =
          let r = ih l in
          (r.0, r.1, get_or-append ws (copy s j ∷ []) (clear 0) k l ∙ r.2, r.3, rw (take-append-le k ws (copy s j ∷ []) (omega arith)) r.4)
      pick (no l) ih =
          let n : length ws ≡ k = omega (arith, length-append ws (copy s j ∷ [])) in
          (s, j, get_or_at ws (copy s j) [] (clear 0) k n, w.after, rw (take_at ws (copy s j ∷ []) k n) here)

  -- what the new rule must be for slot s: right against each entry, by where it stood first
  module _ (new : S) (fresh : NewId empty same first new) (full : occupied new ≡ true) (s : ℕ)
      (earlier : (y : ℕ) → y < length first → toward y s → misplaced (get_or first y empty) new ≡ false)
      (later : (z : ℕ) → z < length first → (toward z s → ⊥) → misplaced new (get_or first z empty) ≡ false) where
    -- the put-in after the chain's copies
    placed : (u : List S) → s < length first → Moved s u → Placed empty occupied same misordered first new s (filled empty u s new)
    placed u b m = record {
      slots = length-set u s new ∙ n;
      order =
          in_order_put direction u s new (omega arith) m.order
          (λ x a l. let h : x < length first = omega arith in rw (m.before x h (asymmetric direction x s l)) (earlier x h l))
          (λ y a l. let z = m.origin y (omega arith) in rw z.2 (later z.0 z.1 (z.3 (asymmetric direction s y l))));
      unique = λ i k a g d.
          pairs_written empty u s new (omega arith) (λ i k a b. same a b ≡ false) (λ k g q. fresh_u k g)
          (λ k g q. same_turned laws (get_or u k empty) new (fresh_u k g)) (λ i k a g p q d. m.apart i k (omega arith) (omega arith) d p q)
          i k (omega (arith, length-set u s new)) (omega (arith, length-set u s new)) d;
      held = λ x.
          let f = held_filled laws u s new between.coherent (omega arith) m.free full x in
          (λ h. ⊎_elim (λ a. inl ((between.held x).0 a)) (λ a. inr a) (f.0 h), λ h. f.1 (⊎_elim (λ a. inl ((between.held x).1 a)) (λ a. inr a) h));
      entry = get_or-set_same u s new empty (omega arith);
    }
      where
        between : Between empty occupied same misordered first u
        between = moved_between s b u m

        n : length u ≡ length first
        n = m.slots

        fresh_u : (k : ℕ) → k < length u → same (get_or u k empty) new ≡ false
        fresh_u k g = let z = m.origin k (omega (arith, n)) in rw z.2 (fresh z.0 z.1)

    -- the whole plan ends with each old entry once and the new one once, in order
    pub plan_placed : {rest : List ℕ} → Chain empty occupied toward misplaced first s rest
        → Placed empty occupied same misordered first new s (carried empty new first (moves s rest ++ (put s ∷ [])))
    plan_placed {rest} x =
        rw (carried_append empty new first (moves s rest) (put s ∷ [])) (placed (carried empty new first (moves s rest)) (chain_inside x) (chain_moved new x))

  -- a chain's copies, and then any sequence of the class from there
  chain_sequence : (new : S) {s : ℕ} {rest : List ℕ} → Chain empty occupied toward misplaced first s rest → (ws : List Write)
      → Sequence empty occupied same misordered toward new (carried empty new first (moves s rest)) ws
      → Sequence empty occupied same misordered toward new first (moves s rest ++ ws)
  unfolding moves
  chain_sequence new (Chain.stop b o) ws q = q
  chain_sequence new {s} (Chain.link {j = j} {rest = rest} b o w x) ws q =
      let u : List S = carried empty new first (moves j rest) in
      let m : Moved j u = chain_moved new x in
      let n : length u ≡ length first = m.slots in
      rw (append_snoc (moves j rest) (copy s j) ws)
      (chain_sequence new x (copy s j ∷ ws) (
      more s j (omega arith) (omega (arith, w.inside)) w.after (ap occupied (source s j u b o w m) ∙ o) m.free (in_order s j u b o w m)
      (rw (carried_append empty new first (moves j rest) (copy s j ∷ [])) at q)
      ))

  -- a plan is itself in the comparison class
  pub plan_sequence : (new : S) {s : ℕ} {rest : List ℕ} → Chain empty occupied toward misplaced first s rest
      → InOrder empty misordered (carried empty new first (moves s rest ++ (put s ∷ [])))
      → Sequence empty occupied same misordered toward new first (moves s rest ++ (put s ∷ []))
  plan_sequence new {s} {rest} x o =
      let m : Moved s (carried empty new first (moves s rest)) = chain_moved new x in
      chain_sequence new x (put s ∷ [])
      (last s (omega (arith, m.slots, chain_inside x)) m.free (rw (carried_append empty new first (moves s rest) (put s ∷ [])) at o))

-- each write of a sequence of the class fits where it is carried out
pub sequence_fits :
    {S : Type 0} {empty : S} {occupied : S → Bool} {same misordered : S → S → Bool} {toward : ℕ → ℕ → Type 0} → ((i : ℕ) → toward i i → ⊥)
    → {new : S} {t : List S} {ws : List Write} → Sequence empty occupied same misordered toward new t ws
    → (k : ℕ) → k < length ws → Fits empty occupied same (carried empty new t (take k ws)) (get_or ws k (clear 0))
sequence_fits i (Sequence.last s b f o) zero h = (b, f)
sequence_fits i (Sequence.last s b f o) (suc k) h = absurd (omega arith)
sequence_fits {toward = toward} i (Sequence.more g j a b l e f o r) zero h = (a, b, λ d. i j (subst (λ (z : ℕ). toward z j) d l), e, f)
sequence_fits i (Sequence.more g j a b l e f o r) (suc k) h = sequence_fits i r k (omega arith)
