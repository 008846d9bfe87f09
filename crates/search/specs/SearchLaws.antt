-- Laws on searches: what each finds, that it finds one thing only, and how a loop makes it one index further.
use Rattle.std.specs.Prelude.{◌≡◌, refl, Bool, true, ◌&&◌, ◌||◌, ◌↔◌, ◌⊎◌, ℕ, zero, suc, ◌+◌, ◌-◌, ◌≤◌, ◌<◌, ltb}
use Rattle.std.proofs.Math.Path.{sym, ap}
use Rattle.std.proofs.Common.{ap₂, ◌∙◌, subst, true≢false, ⊎_elim, arith, lt-ltb, le-ltb}
use Rattle.std.proofs.Math.Bool.{false, cond, or-false}
use Rattle.std.proofs.lemmas.Bool.{false≢true}
use Rattle.std.proofs.Math.Logic.◌⊎◌.{inl, inr}
use Rattle.std.proofs.Math.Decide.{ℕ_discrete, dec_lt}
use Rattle.search.specs.Search.{all, any, least, AfterLast, Least, after_last, first_from, NoneFrom, NoneAbove, AllBelow}

-- a Bool is one of the two, with the equation at hand
pub decided : (b : Bool) → (b ≡ true) ⊎ (b ≡ false)
decided true = inl refl
decided false = inr refl

pub and_both : (a b : Bool) → a ≡ true → b ≡ true → a && b ≡ true
and_both true b p q = q
and_both false b p q = absurd (false≢true p)

pub and_left : (a b : Bool) → a && b ≡ true → a ≡ true
and_left true b p = refl
and_left false b p = p

pub and_right : (a b : Bool) → a && b ≡ true → b ≡ true
and_right true b p = p
and_right false b p = absurd (false≢true p)

pub and_law : (a b : Bool) → (a && b ≡ true) ↔ ((a ≡ true) × (b ≡ true))
and_law a b = (λ e. (and_left a b e, and_right a b e), λ e. and_both a b e.0 e.1)

-- the code's `if a { return b; } false`, a test x for a and a test y for b
pub and_more : {a b x y : Bool} → a ≡ x → a ≡ true → b ≡ y → b ≡ x && y
and_more {x = true} {y} p t q = q
and_more {x = false} {y} p t q = absurd (false≢true (sym p ∙ t))

pub and_stop : {a x : Bool} (y : Bool) → a ≡ x → a ≡ false → false ≡ x && y
and_stop {x = true} y p t = absurd (false≢true (sym t ∙ p))
and_stop {x = false} y p t = refl

pub and_middle : (a : Bool) {b : Bool} (c : Bool) → b ≡ false → false ≡ a && b && c
and_middle true {b} c e = rw e
and_middle false c e = refl

-- what holds below n, and at n, holds below suc n
pub below_suc : (P : ℕ → Type 0) (n : ℕ) → ((j : ℕ) → j < n → P j) → P n → (j : ℕ) → j < suc n → P j
below_suc P n below here j h = pick (ℕ_discrete j n)
  where
    pick : Dec (j ≡ n) → P j
    pick (yes e) = subst P (sym e) here
    pick (no e) = below j (omega arith)

-- all, as a statement about each index
pub all_law : (p : ℕ → Bool) (n : ℕ) → (all p n ≡ true) ↔ ((j : ℕ) → j < n → p j ≡ true)
unfolding all
all_law p zero = (λ e j h. absurd (omega arith), λ h. refl)
all_law p (suc n) = (
  λ e. below_suc (λ (j : ℕ). p j ≡ true) n ((all_law p n).0 (and_left (all p n) (p n) e)) (and_right (all p n) (p n) e),
  λ h. and_both (all p n) (p n) ((all_law p n).1 (λ j l. h j (omega arith))) (h n (omega arith)),
)

-- one index more
pub all_next : (p : ℕ → Bool) (n : ℕ) → all p (n + 1) ≡ all p n && p n
unfolding all
all_next p n = let e : n + 1 ≡ suc n = omega arith in rw e

-- a test that fails below n
pub all_not : (p : ℕ → Bool) (n j : ℕ) → j < n → p j ≡ false → all p n ≡ false
all_not p n j h e = ⊎_elim (λ t. absurd (true≢false (sym ((all_law p n).0 t j h) ∙ e))) (λ f. f) (decided (all p n))

-- a search reads its test only at the indices that it passes
pub all_cong : {p q : ℕ → Bool} (n : ℕ) → ((j : ℕ) → j < n → p j ≡ q j) → all p n ≡ all q n
unfolding all
all_cong zero h = refl
all_cong (suc n) h = ap₂ ◌&&◌ (all_cong n (λ j l. h j (omega arith))) (h n (omega arith))

pub any_cong : {p q : ℕ → Bool} (n : ℕ) → ((j : ℕ) → j < n → p j ≡ q j) → any p n ≡ any q n
unfolding any
any_cong zero h = refl
any_cong (suc n) h = ap₂ ◌||◌ (any_cong n (λ j l. h j (omega arith))) (h n (omega arith))

-- any, as a statement about some index
pub any_some : (p : ℕ → Bool) (n j : ℕ) → j < n → p j ≡ true → any p n ≡ true
unfolding any
any_some p zero j h e = absurd (omega arith)
any_some p (suc n) j h e = pick (ℕ_discrete j n) (any p n) (λ l. any_some p n j l e)
  where
    pick : Dec (j ≡ n) → (a : Bool) → (j < n → a ≡ true) → a || p n ≡ true
    pick d true f = refl
    pick (yes i) false f = ap p (sym i) ∙ e
    pick (no i) false f = absurd (false≢true (f (omega arith)))

pub any_none : (p : ℕ → Bool) (n : ℕ) → ((j : ℕ) → j < n → p j ≡ false) → any p n ≡ false
unfolding any
any_none p zero h = refl
any_none p (suc n) h = rw (any_none p n (λ j l. h j (omega arith))) (h n (omega arith))

pub any_no : (p : ℕ → Bool) (n : ℕ) → any p n ≡ false → (j : ℕ) → j < n → p j ≡ false
any_no p n e j h = ⊎_elim (λ t. absurd (true≢false (sym (any_some p n j h t) ∙ e))) (λ f. f) (decided (p j))

-- the index that the law of any gives
pub any_yes : (p : ℕ → Bool) (n : ℕ) → any p n ≡ true → (j : ℕ) × (j < n) × (p j ≡ true)
unfolding any
any_yes p zero e = absurd (false≢true e)
any_yes p (suc n) e = pick (decided (p n)) (any_yes p n)
  where
    pick : (p n ≡ true) ⊎ (p n ≡ false) → (any p n ≡ true → (j : ℕ) × (j < n) × (p j ≡ true)) → (j : ℕ) × (j < suc n) × (p j ≡ true)
    pick (inl t) f = (n, omega arith, t)
    pick (inr t) f = let r = f (sym (or-false (any p n)) ∙ (ap (λ (b : Bool). any p n || b) (sym t) ∙ e)) in (r.0, omega (arith, r.1), r.2)

pub least_law : (p : ℕ → Bool) (k i : ℕ) → Least p i (i + k) (least p k i)
unfolding least
least_law p zero i = record { low = omega arith; high = omega arith; before = λ j l r. absurd (omega arith); hit = λ l. absurd (omega arith) }
least_law p (suc k) i = pick (decided (p i)) (least_law p k (suc i))
  where
    pick : (p i ≡ true) ⊎ (p i ≡ false) → Least p (suc i) (suc i + k) (least p k (suc i)) → Least p i (i + suc k) (cond (p i) i (least p k (suc i)))
    pick (inl t) r = rw t record { low = omega arith; high = omega arith; before = λ j l u. absurd (omega arith); hit = λ l. t }
    pick (inr t) r =
        rw t record {
          low = omega arith;
          high = omega arith;
          before = λ j l u. from j l u (ℕ_discrete j i);
          hit = λ l. r.hit (omega arith);
        }
      where
        from : (j : ℕ) → i ≤ j → j < least p k (suc i) → Dec (j ≡ i) → p j ≡ false
        from j l u (yes e) = ap p e ∙ t
        from j l u (no e) = r.before j (omega arith) u

pub least_unique : {p : ℕ → Bool} {i e m n : ℕ} → Least p i e m → Least p i e n → m ≡ n
least_unique {p} {i} {e} {m} {n} a b = pick (dec_lt m n) (dec_lt n m)
  where
    pick : Dec (m < n) → Dec (n < m) → m ≡ n
    pick (yes l) d = absurd (true≢false (sym (a.hit (omega (arith, b.high))) ∙ b.before m a.low l))
    pick (no l) (yes r) = absurd (true≢false (sym (b.hit (omega (arith, a.high))) ∙ a.before n b.low r))
    pick (no l) (no r) = omega arith

-- a search loop that counts up from 0 ends in one of two ways
pub least_at : (p : ℕ → Bool) (n i : ℕ) → i < n → ((j : ℕ) → j < i → p j ≡ false) → p i ≡ true → least p n 0 ≡ i
least_at p n i h f t =
    least_unique (least_law p n 0) (record { low = omega arith; high = omega arith; before = λ j l r. f j r; hit = λ l. t })

pub least_none : (p : ℕ → Bool) (n : ℕ) → ((j : ℕ) → j < n → p j ≡ false) → least p n 0 ≡ n
least_none p n f =
    least_unique (least_law p n 0)
    (record { low = omega arith; high = omega arith; before = λ j l r. f j (omega arith); hit = λ l. absurd (omega arith) })

pub least_cong : {p q : ℕ → Bool} (k i : ℕ) → ((j : ℕ) → i ≤ j → j < i + k → p j ≡ q j) → least p k i ≡ least q k i
unfolding least
least_cong zero i h = refl
least_cong (suc k) i h = rw (h i (omega arith) (omega arith), least_cong k (suc i) (λ j l r. h j (omega arith) (omega arith)))

-- indices may be counted from one further on
pub least_shift : (p : ℕ → Bool) (k i : ℕ) → least p k (suc i) ≡ suc (least (λ j. p (suc j)) k i)
unfolding least
least_shift p zero i = refl
least_shift p (suc k) i = pick (decided (p (suc i))) (least_shift p k (suc i))
  where
    pick : (p (suc i) ≡ true) ⊎ (p (suc i) ≡ false) → least p k (suc (suc i)) ≡ suc (least (λ j. p (suc j)) k (suc i))
        → cond (p (suc i)) (suc i) (least p k (suc (suc i))) ≡ suc (cond (p (suc i)) i (least (λ j. p (suc j)) k (suc i)))
    pick (inl t) e = rw t
    pick (inr t) e = rw t e

-- the first index from a start up to an end at which a test holds: there is none, or one before which it does not hold
pub first_from_none : (p : ℕ → Bool) (from to : ℕ) → from ≤ to → ((i : ℕ) → from ≤ i → i < to → p i ≡ false) → first_from p from to ≡ 65535
unfolding first_from
first_from_none p from to l f =
    let q : least p (to - from) from ≡ to
    = least_unique (least_law p (to - from) from)
    (record { low = l; high = omega arith; before = λ i a b. f i a b; hit = λ u. absurd (omega arith) }) in
    rw (le-ltb (least p (to - from) from) to (omega arith))

pub first_from_at : (p : ℕ → Bool) (from to m : ℕ) → from ≤ m → m < to → p m ≡ true → ((i : ℕ) → from ≤ i → i < m → p i ≡ false) → first_from p from to ≡ m
unfolding first_from
first_from_at p from to m a b t f =
    let q : least p (to - from) from ≡ m
    = least_unique (least_law p (to - from) from)
    (record { low = a; high = omega arith; before = λ i x y. f i x y; hit = λ u. t }) in
    rw (lt-ltb (least p (to - from) from) to (omega arith)) q

-- and what a number that it gives says
module _ (p : ℕ → Bool) (from to : ℕ) (room : from ≤ to) (few : to ≤ 65535) where
  abbrev m : ℕ
  m = least p (to - from) from

  first_law : Least p from (from + (to - from)) m
  first_law = least_law p (to - from) from

  pub first_is : (d : ℕ) → d < to → (first_from p from to ≡ d) ↔ ((from ≤ d) × (p d ≡ true) × ((y : ℕ) → from ≤ y → y < d → p y ≡ false))
  unfolding first_from
  first_is d l = (by (dec_lt m to), λ z. first_from_at p from to d z.0 l z.1 z.2)
    where
      by : Dec (m < to) → cond (ltb m to) m 65535 ≡ d → (from ≤ d) × (p d ≡ true) × ((y : ℕ) → from ≤ y → y < d → p y ≡ false)
      by (yes a) e =
          let q : m ≡ d = sym (ap (λ (b : Bool). cond b m 65535) (lt-ltb m to a)) ∙ e in
          (omega (arith, first_law.low, q), ap p (sym q) ∙ first_law.hit (omega arith), λ y u v. first_law.before y u (omega (arith, q)))
      by (no a) e = absurd (let q : 65535 ≡ d = sym (ap (λ (b : Bool). cond b m 65535) (le-ltb m to (omega arith))) ∙ e in omega (arith, q))

  pub first_either : (first_from p from to < to) ⊎ (first_from p from to ≡ 65535)
  unfolding first_from
  first_either = by (dec_lt m to)
    where
      by : Dec (m < to) → (cond (ltb m to) m 65535 < to) ⊎ (cond (ltb m to) m 65535 ≡ 65535)
      by (yes a) = inl (rw (lt-ltb m to a) a)
      by (no a) = inr (rw (le-ltb m to (omega arith)))

  pub first_none : (first_from p from to ≡ 65535) ↔ ((y : ℕ) → from ≤ y → y < to → p y ≡ false)
  unfolding first_from
  first_none = (by (dec_lt m to), first_from_none p from to room)
    where
      by : Dec (m < to) → cond (ltb m to) m 65535 ≡ 65535 → (y : ℕ) → from ≤ y → y < to → p y ≡ false
      by (yes a) e y u v = absurd (let q : m ≡ 65535 = sym (ap (λ (b : Bool). cond b m 65535) (lt-ltb m to a)) ∙ e in omega (arith, q))
      by (no a) e y u v = first_law.before y u (omega arith)

-- the invariant of a search loop that counts up: the test has held nowhere below i
abbrev pub NoneBelow : (ℕ → Bool) → ℕ → ℕ → Type 0
NoneBelow p n i = (i ≤ n) × ((k : ℕ) → k < i → p k ≡ false)

pub none_start : (p : ℕ → Bool) (n : ℕ) → NoneBelow p n 0
none_start p n = (omega arith, λ k h. absurd (omega arith))

pub none_more : (p : ℕ → Bool) (n i : ℕ) → NoneBelow p n i → i < n → p i ≡ false → NoneBelow p n (i + 1)
none_more p n i inv h f = (omega arith, λ k l. below_suc (λ (j : ℕ). p j ≡ false) i inv.1 f k (omega arith))

pub after_last_law : (p : ℕ → Bool) (n : ℕ) → AfterLast p n (after_last p n)
unfolding after_last
after_last_law p zero = record { high = omega arith; after = λ j l r. absurd (omega arith); hit = λ j e. absurd (omega arith) }
after_last_law p (suc n) = pick (decided (p n)) (after_last_law p n)
  where
    pick : (p n ≡ true) ⊎ (p n ≡ false) → AfterLast p n (after_last p n) → AfterLast p (suc n) (cond (p n) (suc n) (after_last p n))
    pick (inl t) r = rw t record { high = omega arith; after = λ j l u. absurd (omega arith); hit = λ j e. let f : j ≡ n = omega arith in ap p f ∙ t }
    pick (inr t) r =
        rw t record {
          high = omega (arith, r.high);
          after = λ j l u. from j l u (ℕ_discrete j n);
          hit = r.hit;
        }
      where
        from : (j : ℕ) → after_last p n ≤ j → j < suc n → Dec (j ≡ n) → p j ≡ false
        from j l u (yes e) = ap p e ∙ t
        from j l u (no e) = r.after j l (omega arith)

pub after_last_unique : {p : ℕ → Bool} {n m l : ℕ} → AfterLast p n m → AfterLast p n l → m ≡ l
after_last_unique {p} {n} {m} {l} a b = pick m l a b (dec_lt m l) (dec_lt l m)
  where
    later : (m l : ℕ) → AfterLast p n m → AfterLast p n l → m < l → ⊥
    later m zero a b h = omega arith
    later m (suc l) a b h = true≢false (sym (b.hit l refl) ∙ a.after l (omega arith) (omega (arith, b.high)))

    pick : (m l : ℕ) → AfterLast p n m → AfterLast p n l → Dec (m < l) → Dec (l < m) → m ≡ l
    pick m l a b (yes h) d = absurd (later m l a b h)
    pick m l a b (no g) (yes h) = absurd (later l m b a h)
    pick m l a b (no g) (no h) = omega arith

pub after_last_cong : {p q : ℕ → Bool} (n : ℕ) → ((j : ℕ) → j < n → p j ≡ q j) → after_last p n ≡ after_last q n
unfolding after_last
after_last_cong zero h = refl
after_last_cong (suc n) h = rw (h n (omega arith), after_last_cong n (λ j l. h j (omega arith)))

-- read from the other end of n indices, the search for the last one below s is a search for the first
pub least_mirrored : (p q : ℕ → Bool) (n s : ℕ) → s ≤ n → ((k : ℕ) → k < s → q (n - suc k) ≡ p k) → least q s (n - s) ≡ n - after_last p s
least_mirrored p q n s few same =
    let law = after_last_law p s in
    let high = law.high in
    least_unique (least_law q s (n - s)) (record {
      low = omega arith;
      high = omega arith;
      before = λ j l r. seen j (omega arith) ∙ law.after (n - suc j) (omega arith) (omega arith);
      hit = λ r. seen (n - after_last p s) (omega arith) ∙ law.hit (n - suc (n - after_last p s)) (omega arith);
    })
  where
    seen : (j : ℕ) → (n - s ≤ j) × (j < n) → q j ≡ p (n - suc j)
    seen j h = let e : j ≡ n - suc (n - suc j) = omega arith in ap q e ∙ same (n - suc j) (omega arith)

pub none_from_start : (p : ℕ → Bool) (from n : ℕ) → from ≤ n → NoneFrom p from n from
none_from_start p from n h = (omega arith, h, λ k l r. absurd (omega arith))

pub none_above : (p : ℕ → Bool) (n : ℕ) → NoneAbove p n n
none_above p n = (omega arith, λ k l r. absurd (omega arith))

pub none_lower : (p : ℕ → Bool) (n i : ℕ) → NoneAbove p n i → 0 < i → p (i - 1) ≡ false → NoneAbove p n (i - 1)
none_lower p n i inv h f = (omega (arith, inv.0), λ k l r. pick k l r (ℕ_discrete k (i - 1)))
  where
    pick : (k : ℕ) → i - 1 ≤ k → k < n → Dec (k ≡ i - 1) → p k ≡ false
    pick k l r (yes e) = ap p e ∙ f
    pick k l r (no e) = inv.1 k (omega arith) r

-- such a loop ends in one of two ways
pub after_last_at : (p : ℕ → Bool) (n i : ℕ) → NoneAbove p n i → 0 < i → p (i - 1) ≡ true → after_last p n ≡ i
after_last_at p n i inv h t =
    after_last_unique (after_last_law p n)
    (record { high = inv.0; after = inv.1; hit = λ j e. let f : j ≡ i - 1 = omega arith in ap p f ∙ t })

pub after_last_none : (p : ℕ → Bool) (n i : ℕ) → NoneAbove p n i → i ≤ 0 → after_last p n ≡ 0
after_last_none p n i inv h =
    after_last_unique (after_last_law p n)
    (record { high = omega arith; after = λ j l r. inv.1 j (omega arith) r; hit = λ j e. absurd (omega arith) })

-- a loop that ends where a test fails: its start, a step, its end, and the way out
pub all_start : (p : ℕ → Bool) (n : ℕ) → AllBelow p n 0
all_start p n = (omega arith, λ k h. absurd (omega arith))

pub all_more : (p : ℕ → Bool) (n i : ℕ) → AllBelow p n i → i < n → p i ≡ true → AllBelow p n (i + 1)
all_more p n i inv h t = (omega arith, λ k l. below_suc (λ (j : ℕ). p j ≡ true) i inv.1 t k (omega arith))

pub all_end : (p : ℕ → Bool) (n i : ℕ) → AllBelow p n i → n ≤ i → true ≡ all p n
all_end p n i inv h = sym ((all_law p n).1 (λ k l. inv.1 k (omega arith)))

pub all_out : (p : ℕ → Bool) (n i : ℕ) → i < n → p i ≡ false → false ≡ all p n
all_out p n i h f = sym (all_not p n i h f)
