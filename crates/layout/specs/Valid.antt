-- A plan on its way: before the last write each old entry is held, in order; after it each stands once, and the new one once.
use Rattle.std.specs.Prelude.{◌≡◌, Bool, ◌↔◌, ◌⊎◌, List, ℕ, length, get_or}
use Rattle.layout.specs.Order.{InOrder}
use Rattle.layout.specs.Held.{Held, Unique, Coherent, OnePair}

-- what holds of each layout between two writes of a plan
pub record Between {S : Type 0} (empty : S) (occupied : S → Bool) (same misordered : S → S → Bool) (first u : List S) : Type 0 where
  pub slots : length u ≡ length first
  pub order : InOrder empty misordered u
  pub held : (x : S) → Held empty occupied u x ↔ Held empty occupied first x
  pub coherent : Coherent empty same u
  pub doubled : OnePair empty same u

-- what holds of the layout after the plan: each old entry once, the new one once, in order
pub record Placed {S : Type 0} (empty : S) (occupied : S → Bool) (same misordered : S → S → Bool) (first : List S) (new : S) (s : ℕ) (u : List S) : Type 0 where
  pub slots : length u ≡ length first
  pub order : InOrder empty misordered u
  pub unique : Unique empty same u
  pub held : (x : S) → Held empty occupied u x ↔ (Held empty occupied first x ⊎ (new ≡ x))
  pub entry : get_or u s empty ≡ new
