-- Laws on positions: a position's slot is one of the slots.
use Rattle.std.specs.Prelude.{Bool, true, false, ℕ, ◌<◌}
use Rattle.std.proofs.Common.{arith}
use Rattle.positions.specs.Positions.{slot_at}

pub slot_below : (slots : ℕ) (up : Bool) (p : ℕ) → p < slots → slot_at slots up p < slots
slot_below slots true p h = omega arith
slot_below slots false p h = h
