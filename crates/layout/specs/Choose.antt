-- What a choice keeps: the slot is in its range, of least cost there, by the tie rule, and its chain is the tie rule's walk.
use Rattle.std.specs.Prelude.{◌≡◌, Bool, List, ℕ, ◌≤◌, ◌<◌, length}
use Rattle.layout.specs.Chain.{Walk}
use Rattle.layout.specs.Plan.{Range, Choice}

-- in one direction, along which of two slots of equal cost the one that comes first is taken
pub record Chosen {S : Type 0} (empty : S) (occupied : S → Bool) (toward : ℕ → ℕ → Type 0) (misplaced : S → S → Bool) (t : List S) (c : ℕ → ℕ)
    (range : Range) (choice : Choice) : Type 0 where
  pub inside : choice.slot < length t
  pub from : range.from ≤ choice.slot
  pub to : choice.slot < range.to
  pub cost : c choice.slot ≡ choice.cost
  pub least : (j : ℕ) → range.from ≤ j → j < range.to → j < length t → choice.cost ≤ c j
  pub tie : (j : ℕ) → range.from ≤ j → j < range.to → j < length t → toward j choice.slot → choice.cost < c j
  pub walk : Walk empty occupied toward misplaced t c choice.slot choice.chain
