-- End theorems on the numbers of a neighbour list, in document 01's words, for any table: the nearest dependant going down,
-- the nearest rule that precedes going up, and 65,535 exactly where there is none.
use Rattle.std.specs.Prelude.{◌≡◌, Bool, true, ◌↔◌, List, ℕ, suc, ◌-◌, ◌≤◌, ◌<◌, ltb}
use Rattle.std.proofs.Math.Path.{sym}
use Rattle.std.proofs.Common.{ap, ◌∙◌, arith, lt-ltb, le-ltb}
use Rattle.std.proofs.Math.Bool.{false, cond}
use Rattle.std.proofs.Math.Decide.{dec_lt}
use Rattle.search.specs.Search.{after_last, AfterLast}
use Rattle.search.specs.SearchLaws.{after_last_law, first_is, first_none}
use Rattle.layout.specs.Order.{Higher, Lower}
use Rattle.records.specs.Order.{slots}
use Rattle.neighbour_lists.specs.Lists.{last_below, next_dependant, last_preceding}
use Rattle.neighbour_lists.proofs.ListsLaws.{last_below_none, last_below_at}
use Rattle.insert_plans.specs.Nearest.{depends_at, precedes_at, Nearest}

-- of the slots below slot i, fewer than 65,535, the last at which a test holds
module _ (p : ℕ → Bool) (i : ℕ) (few : i ≤ 65535) where
  abbrev a : ℕ
  a = after_last p i

  last_law : AfterLast p i a
  last_law = after_last_law p i

  last_is : (d : ℕ) → d < 65535 → (last_below p i ≡ d) ↔ ((d < i) × (p d ≡ true) × ((y : ℕ) → d < y → y < i → p y ≡ false))
  unfolding last_below
  last_is d l = (to (dec_lt 0 a), from)
    where
      to : Dec (0 < a) → cond (ltb 0 a) (a - 1) 65535 ≡ d → (d < i) × (p d ≡ true) × ((y : ℕ) → d < y → y < i → p y ≡ false)
      to (yes b) e =
          let q : a - 1 ≡ d = sym (ap (λ (c : Bool). cond c (a - 1) 65535) (lt-ltb 0 a b)) ∙ e in
          (omega (arith, last_law.high, q), last_law.hit d (omega (arith, q)), λ y u v. last_law.after y (omega (arith, q)) v)
      to (no b) e = absurd (let q : 65535 ≡ d = sym (ap (λ (c : Bool). cond c (a - 1) 65535) (le-ltb 0 a (omega arith))) ∙ e in omega (arith, q))

      from : (d < i) × (p d ≡ true) × ((y : ℕ) → d < y → y < i → p y ≡ false) → cond (ltb 0 a) (a - 1) 65535 ≡ d
      from z = last_below_at p i d z.0 z.1 z.2

  last_none : (last_below p i ≡ 65535) ↔ ((y : ℕ) → y < i → p y ≡ false)
  unfolding last_below
  last_none = (to (dec_lt 0 a), from)
    where
      to : Dec (0 < a) → cond (ltb 0 a) (a - 1) 65535 ≡ 65535 → (y : ℕ) → y < i → p y ≡ false
      to (yes b) e y v = absurd (let q : a - 1 ≡ 65535 = sym (ap (λ (c : Bool). cond c (a - 1) 65535) (lt-ltb 0 a b)) ∙ e in omega (arith, last_law.high, q))
      to (no b) e y v = last_law.after y (omega arith) v

      from : ((y : ℕ) → y < i → p y ≡ false) → cond (ltb 0 a) (a - 1) 65535 ≡ 65535
      from f = last_below_none p i f

-- the numbers of a slot of any table of at most 65,535 slots
module _ (w : ℕ) (u : Bool) (t : List ℕ) (few : slots w t ≤ 65535) (i : ℕ) (h : i < slots w t) where
  pub next_nearest : (d : ℕ) → d < slots w t → (next_dependant w u t i ≡ d) ↔ Nearest Higher (depends_at w u t) (slots w t) i d
  unfolding next_dependant
  next_nearest d l = (
    λ e. let z = (first_is (depends_at w u t i) (suc i) (slots w t) h few d l).0 e in record { within = l; after = z.0; bounding = z.1; none_nearer = λ y v a b. z.2 y a b },
    λ r. (first_is (depends_at w u t i) (suc i) (slots w t) h few d l).1 (r.after, r.bounding, λ y a b. r.none_nearer y (omega arith) a b),
  )

  pub next_none : (next_dependant w u t i ≡ 65535) ↔ ((y : ℕ) → i < y → y < slots w t → depends_at w u t i y ≡ false)
  unfolding next_dependant
  next_none = first_none (depends_at w u t i) (suc i) (slots w t) h few

  pub before_nearest : (d : ℕ) → d < slots w t → (last_preceding w u t i ≡ d) ↔ Nearest Lower (precedes_at w u t) (slots w t) i d
  unfolding last_preceding
  before_nearest d l = (
    λ e. let z = (last_is (precedes_at w u t i) i (omega arith) d (omega arith)).0 e in record { within = l; after = z.0; bounding = z.1; none_nearer = λ y v a b. z.2 y b a },
    λ r. (last_is (precedes_at w u t i) i (omega arith) d (omega arith)).1 (r.after, r.bounding, λ y a b. r.none_nearer y (omega arith) b a),
  )

  pub before_none : (last_preceding w u t i ≡ 65535) ↔ ((y : ℕ) → y < i → precedes_at w u t i y ≡ false)
  unfolding last_preceding
  before_none = last_none (precedes_at w u t i) i (omega arith)
