-- Replies: the highest-ranked match among entries, the first match of a layout, and what both tell of it.
use Rattle.std.specs.Prelude.{◌≡◌, Bool, true, false, cond, ◌&&◌, ◌⊎◌, List, ℕ, ltb, length, get_or}
use Rattle.std.proofs.Math.Option.{Option, none, some}
use Rattle.search.specs.Search.{least}
use Rattle.layout.specs.Order.{precedes}

-- x is a highest-ranked match of a set of rules: it matches, and no rule of the set that matches precedes it
pub record Highest {S : Type 0} (misordered : S → S → Bool) (matches : S → Bool) (rules : S → Type 0) (x : S) : Type 0 where
  pub member : rules x
  pub matched : matches x ≡ true
  pub unsurpassed : (y : S) → rules y → matches y ≡ true → precedes misordered y x ≡ false

-- the reply that a set of rules gives, without slots: what is observed of a highest-ranked match, or a miss where none matches
abbrev pub Answers : {S O : Type 0} → (S → S → Bool) → (S → Bool) → (S → O) → (S → Type 0) → Option O → Type 0
Answers {S} misordered matches observed rules none = (x : S) → rules x → matches x ≡ false
Answers {S} misordered matches observed rules (some o) = (x : S) × Highest misordered matches rules x × (observed x ≡ o)

module _ {S : Type 0} (empty : S) (occupied matches : S → Bool) where
  -- the lowest slot whose rule matches, or the number of slots
  unfoldable pub first_match : List S → ℕ
  first_match t = least (λ i. occupied (get_or t i empty) && matches (get_or t i empty)) (length t) 0

  -- the reply of a layout: what is observed of the first match, or a miss
  unfoldable pub reply : {O : Type 0} → (S → O) → List S → Option O
  reply observed t = cond (ltb (first_match t) (length t)) (some (observed (get_or t (first_match t) empty))) none

-- of two entries of different id that match one key, one order is out of order, or they are observed alike
abbrev pub ConflictOrAlike : {S O : Type 0} → (S → Bool) → (S → S → Bool) → (S → S → Bool) → (S → Bool) → (S → O) → Type 0
ConflictOrAlike {S} occupied same misordered matches observed =
    (a b : S) → occupied a ≡ true → occupied b ≡ true → matches a ≡ true → matches b ≡ true → same a b ≡ false
    → ((misordered a b ≡ true) ⊎ (misordered b a ≡ true)) ⊎ (observed a ≡ observed b)
