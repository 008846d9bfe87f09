-- Positions along a direction: position p is slot p going down, and the slot as far from the last one going up.
-- One definition serves both directions.
use Rattle.std.specs.Prelude.{Bool, cond, ℕ}
use Rattle.layout.specs.Mirror.{mirror}

-- the slot at a position
abbrev pub slot_at : ℕ → Bool → ℕ → ℕ
slot_at slots up p = cond up (mirror slots p) p
