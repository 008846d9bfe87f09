-- Chains of moves: each rule goes to a slot of its window, the last to an empty slot. The walk that document 01's tie rule takes.
use Rattle.std.specs.Prelude.{◌≡◌, Bool, true, false, List, [], ◌∷◌, ℕ, zero, suc, ◌-◌, ◌<◌, eqb, length, get_or}
use Rattle.search.specs.Search.{least}
use Rattle.layout.specs.Cost.{InWindow}

-- a chain from slot s: the slots to which the rules of s and of each slot after it are moved in turn
pub data Chain {S : Type 0} (empty : S) (occupied : S → Bool) (toward : ℕ → ℕ → Type 0) (misplaced : S → S → Bool) (t : List S)
    : ℕ → List ℕ → Type 0 where
  stop : {s : ℕ} → s < length t → occupied (get_or t s empty) ≡ false → Chain empty occupied toward misplaced t s []
  link : {s j : ℕ} {rest : List ℕ} → s < length t → occupied (get_or t s empty) ≡ true → InWindow empty toward misplaced t s j
      → Chain empty occupied toward misplaced t j rest → Chain empty occupied toward misplaced t s (j ∷ rest)

-- the chain that the tie rule walks: each rule goes to the slot of least cost in its window, and of several to the one that comes first
pub data Walk {S : Type 0} (empty : S) (occupied : S → Bool) (toward : ℕ → ℕ → Type 0) (misplaced : S → S → Bool) (t : List S) (c : ℕ → ℕ)
    : ℕ → List ℕ → Type 0 where
  stop : {s : ℕ} → s < length t → occupied (get_or t s empty) ≡ false → Walk empty occupied toward misplaced t c s []
  link : {s j : ℕ} {rest : List ℕ} → s < length t → occupied (get_or t s empty) ≡ true → InWindow empty toward misplaced t s j
      → c s ≡ suc (c j) → ((y : ℕ) → y < length t → toward s y → toward y j → c j < c y)
      → Walk empty occupied toward misplaced t c j rest → Walk empty occupied toward misplaced t c s (j ∷ rest)

-- the slots walked from s with k moves to make; next k s is the slot after s where k moves are left
unfoldable pub steps : (ℕ → ℕ → ℕ) → ℕ → ℕ → List ℕ
steps next zero s = []
steps next (suc k) s = let j = next k s in j ∷ steps next k j

-- Code steps by costs alone: with k moves left, to the first position after s of cost k; going up, positions are read from the other end.
abbrev pub first_of_cost : (ℕ → ℕ) → ℕ → ℕ → ℕ → ℕ
first_of_cost c n k s = least (λ y. eqb (c y) k) (n - suc s) (suc s)
