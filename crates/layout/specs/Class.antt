-- Document 01's comparison class: the sequences of writes that a plan's count is compared with.
-- A sequence may be of any length and may leave copies over.
use Rattle.std.specs.Prelude.{◌≡◌, Bool, true, ◌⊎◌, List, [], ◌∷◌, ℕ, ◌<◌, length, get_or}
use Rattle.layout.specs.Order.{InOrder, Higher, Lower}
use Rattle.layout.specs.Held.{Free, copied, filled}
use Rattle.layout.specs.Write.{Write, copy, put}

-- The sequences of the class that go one way. Each write but the last copies a rule from one slot to another, toward that way; no write,
-- the last too, loses a rule; the table is in order after each; the last puts the new rule in.
pub data Sequence {S : Type 0} (empty : S) (occupied : S → Bool) (same misordered : S → S → Bool) (toward : ℕ → ℕ → Type 0) (new : S)
    : List S → List Write → Type 0 where
  last : {t : List S} (to : ℕ) → to < length t → Free empty occupied same t to
      → InOrder empty misordered (filled empty t to new)
      → Sequence empty occupied same misordered toward new t (put to ∷ [])
  more : {t : List S} {rest : List Write} (from to : ℕ) → from < length t → to < length t → toward from to
      → occupied (get_or t from empty) ≡ true
      → Free empty occupied same t to
      → InOrder empty misordered (copied empty t from to)
      → Sequence empty occupied same misordered toward new (copied empty t from to) rest
      → Sequence empty occupied same misordered toward new t (copy from to ∷ rest)

-- the comparison class: all copies toward higher slots, or all toward lower
abbrev pub InClass : {S : Type 0} → S → (S → Bool) → (S → S → Bool) → (S → S → Bool) → S → List S → List Write → Type 0
InClass empty occupied same misordered new t ws =
    Sequence empty occupied same misordered Higher new t ws ⊎ Sequence empty occupied same misordered Lower new t ws
