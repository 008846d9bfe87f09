-- Costs of positions in one direction, from the ends of their windows alone.
-- A position's window starts right after it; its end is one past the window's last position, and 0 says that the position is empty.
use Rattle.std.specs.Prelude.{◌≡◌, cond, List, ℕ, suc, ◌-◌, ◌≤◌, ◌<◌, eqb, length, get_or, drop}
use Rattle.layout.specs.Minimum.{minimum}

-- the cost of a position in a list of costs
abbrev pub cost_of : List ℕ → ℕ → ℕ
cost_of costs p = get_or costs p 0

-- 0 if the position is empty, else 1 + the least cost in its window; slots or more is infinite
unfoldable pub position_cost : List ℕ → ℕ → (ℕ → ℕ) → ℕ → ℕ
position_cost ends slots c p = cond (eqb (get_or ends p 0) 0) 0 (suc (minimum c slots (get_or ends p 0 - suc p) (suc p)))

-- what filling asks of the two buffers: a word for each position, and no window that reaches past the last one
pub record Sized (ends costs : List ℕ) (slots : ℕ) : Type 0 where
  pub few : slots ≤ 1024
  pub ends_long : slots ≤ length ends
  pub costs_long : slots ≤ length costs
  pub within : (p : ℕ) → p < slots → get_or ends p 0 ≤ slots

-- the equation of costs holds at each position from i on
abbrev pub SolvedFrom : List ℕ → ℕ → ℕ → (ℕ → ℕ) → Type 0
SolvedFrom ends slots i c = (p : ℕ) → i ≤ p → p < slots → c p ≡ position_cost ends slots c p

-- a buffer of costs, before and after it is filled
pub record Filled (ends : List ℕ) (slots : ℕ) (before after : List ℕ) : Type 0 where
  pub solved : SolvedFrom ends slots 0 (cost_of after)
  pub rest : drop slots after ≡ drop slots before
