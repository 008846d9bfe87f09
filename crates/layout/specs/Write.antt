-- Writes: what one does to a layout, when it fits, and the list of writes that carries a chain out.
-- A plan's writes are carried out in order, one at a time.
use Rattle.std.specs.Prelude.{◌≡◌, Bool, true, ◌≢◌, List, [], ◌∷◌, ◌++◌, ℕ, ◌<◌, length, get_or}
use Rattle.layout.specs.Held.{Free, copied, filled, emptied}

-- one write of a plan: copy slot from to slot to, put the new rule in, empty a slot
pub data Write : Type 0 where
  copy : ℕ → ℕ → Write
  put : ℕ → Write
  clear : ℕ → Write

module _ {S : Type 0} (empty new : S) where
  -- the layout after one write
  abbrev pub applied : List S → Write → List S
  applied t (copy from to) = copied empty t from to
  applied t (put to) = filled empty t to new
  applied t (clear to) = emptied empty t to

  -- the layout after a list of writes
  abbrev pub carried : List S → List Write → List S
  carried t [] = t
  carried t (w ∷ ws) = carried (applied t w) ws

module _ {S : Type 0} (empty : S) (occupied : S → Bool) (same : S → S → Bool) where
  -- document 01, "Carrying out": when a write fits
  abbrev pub Fits : List S → Write → Type 0
  Fits t (copy from to) =
      (from < length t) × (to < length t) × (from ≢ to) × (occupied (get_or t from empty) ≡ true) × Free empty occupied same t to
  Fits t (put to) = (to < length t) × Free empty occupied same t to
  Fits t (clear to) = (to < length t) × (occupied (get_or t to empty) ≡ true)

-- the copies of a chain from slot s, the far end first
unfoldable pub moves : ℕ → List ℕ → List Write
moves s [] = []
moves s (j ∷ rest) = moves j rest ++ (copy s j ∷ [])
