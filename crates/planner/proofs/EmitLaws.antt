-- Laws on the words of a chain: as many as its moves, and one stored after the other on the way back.
use Rattle.std.specs.Prelude.{◌≡◌, refl, Bool, List, [], ◌∷◌, ◌++◌, ℕ, zero, suc, ◌+◌, ◌-◌, ◌≤◌, ◌<◌, length, get_or, drop, set, eqb}
use Rattle.std.proofs.Common.{sym, ◌∙◌, add-one, arith, length-append, drop-cons}
use Rattle.std.proofs.lemmas.List.{set_at}
use Rattle.std.proofs.Math.Seq.{append_snoc}
use Rattle.search.specs.Search.{least}
use Rattle.layout.specs.Write.{copy}
use Rattle.layout.specs.Chain.{first_of_cost}
use Rattle.plan_words.specs.PlanWords.{write_word}
use Rattle.positions.specs.Positions.{slot_at}
use Rattle.planner.specs.Emit.{Stays, emitted}

pub stays_here : (c : ℕ → ℕ) (slots s k : ℕ) → Stays c slots s k → s < slots
unfolding Stays
stays_here c slots s zero h = h
stays_here c slots s (suc k) h = h.0

-- the code's search for the next position
pub first_after : (c : ℕ → ℕ) (slots s k j : ℕ) → j ≡ least (λ y. eqb (c y) k) (slots - (s + 1)) (s + 1) → j ≡ first_of_cost c slots k s
first_after c slots s k j e = rw (add-one s) at e

pub stays_next : (c : ℕ → ℕ) (slots s k j : ℕ) → 0 < k → j ≡ first_of_cost c slots (k - 1) s → Stays c slots s k → Stays c slots j (k - 1)
unfolding Stays
stays_next c slots s zero j z e h = absurd (omega arith)
stays_next c slots s (suc k) j z e h = let n : suc k - 1 ≡ k = omega arith in rw (e, n) h.1

pub emitted_length : (c : ℕ → ℕ) (slots : ℕ) (up : Bool) (s k : ℕ) → length (emitted c slots up s k) ≡ k
unfolding emitted
emitted_length c slots up s zero = refl
emitted_length c slots up s (suc k) = simp (length-append, emitted_length c slots up (first_of_cost c slots k s) k, add-one)

-- one word more is stored after those that stand at the plan's front
pub stored_after : (front plan : List ℕ) (k w : ℕ) → length front ≡ k → k < length plan
    → set (front ++ drop k plan) k w ≡ (front ++ (w ∷ [])) ++ drop (suc k) plan
stored_after front plan k w e h =
    rw (drop-cons plan k 0 h) (set_at front (get_or plan k 0) (drop (suc k) plan) w k e ∙ sym (append_snoc front w (drop (suc k) plan)))

-- the last move's word is stored after those of the moves further on
pub emitted_stored : (c : ℕ → ℕ) (slots : ℕ) (up : Bool) (plan : List ℕ) (s k j : ℕ) (after : List ℕ) (w : ℕ) → 0 < k → k ≤ length plan
    → j ≡ first_of_cost c slots (k - 1) s → after ≡ emitted c slots up j (k - 1) ++ drop (k - 1) plan
    → w ≡ write_word (copy (slot_at slots up s) (slot_at slots up j)) → set after (k - 1) w ≡ emitted c slots up s k ++ drop k plan
unfolding emitted
emitted_stored c slots up plan s zero j after w z h e f g = absurd (omega arith)
emitted_stored c slots up plan s (suc k) j after w z h e f g =
    let n : suc k - 1 ≡ k = omega arith in
    let e' : j ≡ first_of_cost c slots k s = rw n at e in
    rw (f, g, n, e') (stored_after (emitted c slots up (first_of_cost c slots k s) k) plan k _ (emitted_length c slots up (first_of_cost c slots k s) k) (omega arith))
