-- Lent cells after a call: on a success its data stands in the data cells, on a refusal its spot in the cell for it.
-- A success leaves the spot and a refusal leaves the data as they were; a miss, a success without data, puts 0 into the data cells.
use Rattle.std.specs.Prelude.{Bool, not, cond, ℕ, eqb, get_or}
use Rattle.records.specs.Checks.{Told}

-- the cell for value k of a success; a success that has no such value, as a miss, leaves 0
abbrev pub data_cell : Told → ℕ → ℕ → ℕ
data_cell told k before = cond (eqb told.number 0) (get_or told.values k 0) before

-- the cell for a refusal's spot
abbrev pub spot_cell : Told → ℕ → ℕ
spot_cell told before = cond (eqb told.number 0) before (get_or told.values 0 0)

-- a flag crosses as a number: 0 is no, and any other number yes
abbrev pub flag_of : ℕ → Bool
flag_of n = not (eqb n 0)
