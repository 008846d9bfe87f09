-- The comparison class as a test, so that small sequences can be evaluated.
-- Nothing else rests on it.
use Rattle.std.specs.Prelude.{Bool, false, ◌&&◌, List, [], ◌∷◌, ℕ, ltb, length, get_or}
use Rattle.layout.specs.Order.{in_order}
use Rattle.layout.specs.Held.{free, copied, filled}
use Rattle.layout.specs.Write.{Write, copy, put, clear}

module _ {S : Type 0} (empty : S) (occupied : S → Bool) (same misordered : S → S → Bool) (toward : ℕ → ℕ → Bool) (new : S) where
  -- the clauses for the last write, and for one copy, as tests
  unfoldable pub last_fits : List S → ℕ → Bool
  last_fits t to = ltb to (length t) && (free empty occupied same t to && in_order empty misordered (filled empty t to new))

  unfoldable pub copy_fits : List S → ℕ → ℕ → Bool
  copy_fits t from to =
      ltb from (length t)
      && (ltb to (length t)
      && (toward from to && (occupied (get_or t from empty) && (free empty occupied same t to && in_order empty misordered (copied empty t from to)))))

  -- the class as a test
  unfoldable pub sequence : List S → List Write → Bool
  sequence t [] = false
  sequence t (copy from to ∷ rest) = copy_fits t from to && sequence (copied empty t from to) rest
  sequence t (put to ∷ []) = last_fits t to
  sequence t (put to ∷ w ∷ rest) = false
  sequence t (clear to ∷ rest) = false
