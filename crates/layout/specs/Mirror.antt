-- The mirror image of a slot number: the slot as far from the last one.
-- Windows and costs going up are those of the layout read from its other end.
use Rattle.std.specs.Prelude.{ℕ, suc, ◌-◌}

-- the slot's number counted from the other end
abbrev pub mirror : ℕ → ℕ → ℕ
mirror n i = n - suc i
