-- The words of a chain of moves, walked by positions and costs alone.
-- With k moves left the next position is the first one after the present whose cost is k − 1; a chain's words list its far end first.
use Rattle.std.specs.Prelude.{Bool, List, [], ◌∷◌, ◌++◌, ℕ, zero, suc, ◌≤◌, ◌<◌, length}
use Rattle.layout.specs.Write.{copy}
use Rattle.layout.specs.Chain.{first_of_cost}
use Rattle.plan_words.specs.PlanWords.{write_word}
use Rattle.positions.specs.Positions.{slot_at}
use Rattle.costs.specs.Costs.{cost_of}

-- the walk from position s with k moves left stays among the positions
unfoldable pub Stays : (ℕ → ℕ) → ℕ → ℕ → ℕ → Type 0
Stays c slots s zero = s < slots
Stays c slots s (suc k) = (s < slots) × Stays c slots (first_of_cost c slots k s) k

-- the words of that walk
unfoldable pub emitted : (ℕ → ℕ) → ℕ → Bool → ℕ → ℕ → List ℕ
emitted c slots up s zero = []
emitted c slots up s (suc k) =
    let j = first_of_cost c slots k s in
    emitted c slots up j k ++ (write_word (copy (slot_at slots up s) (slot_at slots up j)) ∷ [])

-- what emission asks: room for the words, and a walk that stays among the positions
pub record Walkable (costs plan : List ℕ) (slots s k : ℕ) : Type 0 where
  pub few : slots ≤ 1024
  pub costs_long : slots ≤ length costs
  pub plan_long : k ≤ length plan
  pub stays : Stays (cost_of costs) slots s k
