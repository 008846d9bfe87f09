-- Laws on the neighbour list: what the two numbers of a slot are, and a walk upward that keeps the first.
use Rattle.std.specs.Prelude.{◌≡◌, refl, Bool, true, false, cond, not, ◌&&◌, ◌⊎◌, ℕ, zero, suc, ◌+◌, ◌-◌, ◌<◌, ◌≤◌, eqb}
use Rattle.std.proofs.Common.{sym, ap, ◌∙◌, true≢false, arith, eq-eqb, eqb-true, lt-ltb, le-ltb}
use Rattle.std.proofs.lemmas.Bool.{false≢true}
use Rattle.std.proofs.Math.Logic.◌⊎◌.{inl, inr}
use Rattle.std.proofs.Math.Decide.{ℕ_discrete}
use Rattle.search.specs.Search.{least, after_last, first_from}
use Rattle.search.specs.SearchLaws.{decided, and_both, and_left, and_right, least_law, least_unique, after_last_law, after_last_unique, first_from_none, first_from_at}
use Rattle.neighbour_lists.specs.Lists.{last_below}
use Rattle.neighbour_lists.specs.Row.{keep, first_seen}
use Rattle.neighbour_lists.proofs.RowLaws.{keep_none, keep_some}

-- the last index below an end at which a test holds: there is none, or one after which it does not hold
pub last_below_none : (p : ℕ → Bool) (n : ℕ) → ((i : ℕ) → i < n → p i ≡ false) → last_below p n ≡ 65535
unfolding last_below
last_below_none p n f =
    let e : after_last p n ≡ 0
    = after_last_unique (after_last_law p n) (record { high = omega arith; after = λ i l h. f i h; hit = λ i q. absurd (omega arith) }) in
    rw (le-ltb 0 (after_last p n) (omega arith))

pub last_below_at : (p : ℕ → Bool) (n m : ℕ) → m < n → p m ≡ true → ((i : ℕ) → m < i → i < n → p i ≡ false) → last_below p n ≡ m
unfolding last_below
last_below_at p n m h t f =
    let e : after_last p n ≡ suc m
    = after_last_unique (after_last_law p n)
    (record { high = h; after = λ i l u. f i l u; hit = λ i q. (let g : i ≡ m = omega arith in ap p g ∙ t) }) in
    rw (lt-ltb 0 (after_last p n) (omega arith)) (omega arith)

-- before any index is asked there is none
pub seen_start : (p : ℕ → Bool) (i : ℕ) → first_seen p (i + 1) (i + 1 - (i + 1)) ≡ 65535
unfolding first_seen
seen_start p i = let k : i + 1 - (i + 1) ≡ 0 = omega arith in rw k

-- what the walk has kept: none, or the first
data Seen (p : ℕ → Bool) (from k x : ℕ) : Type 0 where
  none : x ≡ 65535 → ((i : ℕ) → from ≤ i → i < from + k → p i ≡ false) → Seen p from k x
  found : from ≤ x → x < from + k → p x ≡ true → ((i : ℕ) → from ≤ i → i < x → p i ≡ false) → Seen p from k x

seen_law : (p : ℕ → Bool) (from k : ℕ) → from + k ≤ 65535 → Seen p from k (first_seen p from k)
unfolding first_seen
seen_law p from zero h = none refl (λ i l m. absurd (omega arith))
seen_law p from (suc k) h = step (seen_law p from k (omega arith)) (decided (p (from + k)))
  where
    step : Seen p from k (first_seen p from k) → (p (from + k) ≡ true) ⊎ (p (from + k) ≡ false)
        → Seen p from (suc k) (cond (p (from + k)) (keep (first_seen p from k) (from + k)) (first_seen p from k))
    step (none e f) (inl t) =
        rw (t, keep_none (first_seen p from k) (from + k) e) (found (omega arith) (omega arith) t (λ i l m. f i l m))
    step (none e f) (inr t) = rw t (none e (λ i l m. at i l m (ℕ_discrete i (from + k))))
      where
        at : (i : ℕ) → from ≤ i → i < from + suc k → Dec (i ≡ from + k) → p i ≡ false
        at i l m (yes q) = ap p q ∙ t
        at i l m (no n) = f i l (omega arith)
    step (found a b c f) (inl t) =
        rw (t, keep_some (first_seen p from k) (from + k) (λ q. omega arith)) (found a (omega arith) c f)
    step (found a b c f) (inr t) = rw t (found a (omega arith) c f)

-- a walk to the end has kept the first
pub seen_first : (p : ℕ → Bool) (from to : ℕ) → from ≤ to → to ≤ 65535 → first_seen p from (to - from) ≡ first_from p from to
seen_first p from to l h = by (seen_law p from (to - from) (omega arith))
  where
    by : Seen p from (to - from) (first_seen p from (to - from)) → first_seen p from (to - from) ≡ first_from p from to
    by (none e f) = e ∙ sym (first_from_none p from to l (λ i a b. f i a (omega arith)))
    by (found a b c f) = sym (first_from_at p from to (first_seen p from (to - from)) a (omega arith) c f)

-- a search from 0 over one index more, as a loop goes on with it: while nothing is found the index itself is the answer
pub least_grows : (p : ℕ → Bool) (n m : ℕ) (bad : Bool) → m ≡ least p n 0 → bad ≡ p n → eqb m n && not bad ≡ true → m + 1 ≡ least p (n + 1) 0
least_grows p n m bad e b t =
    least_unique
    (record { low = omega arith; high = omega (arith, same); before = λ i l h. at i h (ℕ_discrete i n); hit = λ u. absurd (omega (arith, same)) })
    (least_law p (n + 1) 0)
  where
    same : m ≡ n
    same = eqb-true m n (and_left (eqb m n) (not bad) t)

    fails : (b : Bool) → not b ≡ true → b ≡ false
    fails true q = absurd (false≢true q)
    fails false q = refl

    at : (i : ℕ) → i < m + 1 → Dec (i ≡ n) → p i ≡ false
    at i h (yes s) = ap p s ∙ (sym b ∙ fails bad (and_right (eqb m n) (not bad) t))
    at i h (no s) = (least_law p n 0).before i (omega arith) (omega (arith, same))

pub least_stays : (p : ℕ → Bool) (n m : ℕ) (bad : Bool) → m ≡ least p n 0 → bad ≡ p n → eqb m n && not bad ≡ false → m ≡ least p (n + 1) 0
least_stays p n m bad e b t =
    let law = least_law p n 0 in
    let high = law.high in
    least_unique
    (record { low = omega arith; high = omega arith; before = λ i l h. law.before i l (omega arith); hit = λ u. at (ℕ_discrete m n) })
    (least_law p (n + 1) 0)
  where
    holds : (b : Bool) → eqb m n && not b ≡ false → m ≡ n → b ≡ true
    holds true q s = refl
    holds false q s = absurd (true≢false (sym (and_both (eqb m n) true (eq-eqb m n s) refl) ∙ q))

    at : Dec (m ≡ n) → p m ≡ true
    at (yes s) = ap p s ∙ (sym b ∙ holds bad t s)
    at (no s) = ap p e ∙ (least_law p n 0).hit (let high = (least_law p n 0).high in omega arith)
