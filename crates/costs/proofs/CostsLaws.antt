-- Laws on costs of positions: what the loops over positions keep, and the bounds by which their sums fit.
use Rattle.std.specs.Prelude.{◌≡◌, cond, List, ℕ, suc, ◌+◌, ◌-◌, ◌≤◌, ◌<◌, min, eqb, length, get_or, set}
use Rattle.std.proofs.Common.{sym, ap, ap₂, ◌∙◌, add-one, arith, get_or-set_same, get_or-set_other, eq-eqb, ne_eqb}
use Rattle.std.proofs.Math.Decide.{ℕ_discrete}
use Rattle.layout.specs.Minimum.{minimum}
use Rattle.layout.proofs.MinimumLaws.{minimum_law, minimum_cong}
use Rattle.costs.specs.Costs.{SolvedFrom, cost_of, position_cost}

pub cost_vacant : (ends : List ℕ) (slots : ℕ) (c : ℕ → ℕ) (p : ℕ) → get_or ends p 0 ≡ 0 → position_cost ends slots c p ≡ 0
unfolding position_cost
cost_vacant ends slots c p e = rw (eq-eqb (get_or ends p 0) 0 e)

pub cost_occupied : (ends : List ℕ) (slots : ℕ) (c : ℕ → ℕ) (p : ℕ) → (get_or ends p 0 ≡ 0 → ⊥)
    → position_cost ends slots c p ≡ suc (minimum c slots (get_or ends p 0 - suc p) (suc p))
unfolding position_cost
cost_occupied ends slots c p e = rw (ne_eqb (get_or ends p 0) 0 e)

-- the code's sums, and the bound by which they fit
pub cost_found : (ends : List ℕ) (slots : ℕ) (c : ℕ → ℕ) (p m : ℕ) → (get_or ends p 0 ≡ 0 → ⊥)
    → m ≡ minimum c slots (get_or ends p 0 - (p + 1)) (p + 1) → m + 1 ≡ position_cost ends slots c p
cost_found ends slots c p m o e = rw (add-one m) (ap suc (rw (add-one p) at e) ∙ sym (cost_occupied ends slots c p o))

-- the same of a window that runs to the last position
pub cost_to_last : (ends : List ℕ) (slots : ℕ) (c : ℕ → ℕ) (p m : ℕ) → (get_or ends p 0 ≡ 0 → ⊥) → get_or ends p 0 ≡ slots
    → m ≡ minimum c slots (slots - (p + 1)) (p + 1) → m + 1 ≡ position_cost ends slots c p
cost_to_last ends slots c p m o l e = cost_found ends slots c p m o (e ∙ ap (λ (n : ℕ). minimum c slots (n - (p + 1)) (p + 1)) (sym l))

pub minimum_high : (c : ℕ → ℕ) (top k i m : ℕ) → m ≡ minimum c top k i → m ≤ top
minimum_high c top k i m e = omega (arith, (minimum_law c top k i).high)

-- a cost sees those of the positions after its own
pub position_cost_cong : (ends : List ℕ) (slots p : ℕ) {c d : ℕ → ℕ} → ((j : ℕ) → p < j → c j ≡ d j)
    → position_cost ends slots c p ≡ position_cost ends slots d p
unfolding position_cost
position_cost_cong ends slots p h =
    ap (λ (m : ℕ). cond (eqb (get_or ends p 0) 0) 0 (suc m)) (minimum_cong slots (get_or ends p 0 - suc p) (suc p) (λ j l r. h j l))

-- one position more is stored
pub solved_more : (ends costs : List ℕ) (slots i v : ℕ) → 0 < i → i ≤ slots → slots ≤ length costs → SolvedFrom ends slots i (cost_of costs)
    → v ≡ position_cost ends slots (cost_of costs) (i - 1) → SolvedFrom ends slots (i - 1) (cost_of (set costs (i - 1) v))
solved_more ends costs slots i v z h l inv e p a b = pick (ℕ_discrete p (i - 1))
  where
    kept : (j : ℕ) → i - 1 < j → cost_of costs j ≡ cost_of (set costs (i - 1) v) j
    kept j r = sym (get_or-set_other costs (i - 1) j v 0 (λ q. omega arith))

    pick : Dec (p ≡ i - 1) → cost_of (set costs (i - 1) v) p ≡ position_cost ends slots (cost_of (set costs (i - 1) v)) p
    pick (yes q) = rw q (get_or-set_same costs (i - 1) v 0 (omega arith) ∙ (e ∙ position_cost_cong ends slots (i - 1) kept))
    pick (no q) =
        sym (kept p (omega arith)) ∙ (inv p (omega arith) b ∙ position_cost_cong ends slots p (λ j r. kept j (omega arith)))

-- a minimum counted up: the value at this index and the minimum of those after it, or no index is left
pub minimum_further : (c : ℕ → ℕ) (top to i : ℕ) → i < to → minimum c top (to - i) i ≡ min (c i) (minimum c top (to - (i + 1)) (i + 1))
unfolding minimum
minimum_further c top to i h = let e : to - i ≡ suc (to - suc i) = omega arith in rw (e, add-one)

pub minimum_over : (c : ℕ → ℕ) (top to i : ℕ) → to ≤ i → minimum c top (to - i) i ≡ top
unfolding minimum
minimum_over c top to i h = let e : to - i ≡ 0 = omega arith in rw e

-- the least of all costs, with one position more
pub minimum_stored : (costs : List ℕ) (slots i v : ℕ) → 0 < i → i ≤ slots → slots ≤ length costs
    → minimum (cost_of (set costs (i - 1) v)) slots (slots - (i - 1)) (i - 1) ≡ min v (minimum (cost_of costs) slots (slots - i) i)
minimum_stored costs slots i v z h l =
    let s : i - 1 + 1 ≡ i = omega arith in
    let kept = minimum_cong {c = cost_of (set costs (i - 1) v)} {d = cost_of costs} slots (slots - i) i (λ j a b. get_or-set_other costs (i - 1) j v 0 (λ q. omega arith)) in
    (rw s at (minimum_further (cost_of (set costs (i - 1) v)) slots slots (i - 1) (omega arith)))
    ∙ ap₂ min (get_or-set_same costs (i - 1) v 0 (omega arith)) kept
