-- Laws on lent cells: what a success and a refusal leave in each.
use Rattle.std.specs.Prelude.{◌≡◌, refl, Bool, true, false, ℕ, eqb, get_or, List}
use Rattle.std.proofs.Common.{ap, ◌∙◌, eq-eqb}
use mir.Val.{bool_byte}
use Rattle.records.specs.Checks.{Told, cause_number, success, refusal}
use Rattle.records.proofs.Laws.{cause_not_zero}
use Rattle.records.specs.declared.Cause.{Cause}
use Rattle.buffers.specs.Buffers.{flag_number, with_refreshed, with_cover}
use Rattle.marshalling.specs.Cells.{data_cell, spot_cell}

-- equal answers leave equal cells
pub success_cells : (values : List ℕ) {told : Told} (slot id action spot : ℕ) → success values ≡ told
    → (0 ≡ told.number)
    × ((get_or values 0 0 ≡ data_cell told 0 slot)
    × ((get_or values 1 0 ≡ data_cell told 1 id) × ((get_or values 2 0 ≡ data_cell told 2 action) × (spot ≡ spot_cell told spot))))
success_cells values slot id action spot e = (
  ap (λ (t : Told). t.number) e,
  (
    ap (λ (t : Told). data_cell t 0 slot) e,
    (ap (λ (t : Told). data_cell t 1 id) e, (ap (λ (t : Told). data_cell t 2 action) e, ap (λ (t : Told). spot_cell t spot) e)),
  ),
)

-- a refusal leaves the data cells, and puts its spot into the spot cell
pub refusal_kept : (cause : Cause) (place k before : ℕ) {told : Told} → refusal cause place ≡ told → before ≡ data_cell told k before
refusal_kept cause place k before e = (rw (cause_not_zero cause)) ∙ ap (λ (t : Told). data_cell t k before) e

pub refusal_put : (cause : Cause) (place spot : ℕ) {told : Told} → refusal cause place ≡ told → place ≡ spot_cell told spot
refusal_put cause place spot e = (rw (cause_not_zero cause)) ∙ ap (λ (t : Told). spot_cell t spot) e

pub refusal_cells : (cause : Cause) (place : ℕ) {told : Told} (slot id action spot : ℕ) → refusal cause place ≡ told
    → (cause_number cause ≡ told.number)
    × ((slot ≡ data_cell told 0 slot) × ((id ≡ data_cell told 1 id) × ((action ≡ data_cell told 2 action) × (place ≡ spot_cell told spot))))
refusal_cells cause place slot id action spot e = (
  ap (λ (t : Told). t.number) e,
  (refusal_kept cause place 0 slot e, (refusal_kept cause place 1 id e, (refusal_kept cause place 2 action e, refusal_put cause place spot e))),
)

-- a number that a success holds more moves neither the cell for its first value nor that for a refusal's spot
pub cover_cells : (told : Told) (covered before spot : ℕ)
    → (data_cell (with_cover told covered) 0 before ≡ data_cell told 0 before) × (spot_cell (with_cover told covered) spot ≡ spot_cell told spot)
cover_cells told covered before spot = pick (eqb told.number 0) refl
  where
    pick : (b : Bool) → eqb told.number 0 ≡ b
        → (data_cell (with_cover told covered) 0 before ≡ data_cell told 0 before) × (spot_cell (with_cover told covered) spot ≡ spot_cell told spot)
    pick true e = (rw e, rw e)
    pick false e = (rw e, rw e)

-- that number is in the cell for a second value
pub cover_cell : (told : Told) (covered before : ℕ) → told.number ≡ 0 → data_cell (with_cover told covered) 1 before ≡ covered
cover_cell told covered before e = rw (eq-eqb told.number 0 e)

-- what a success tells of a list moves neither the cells for its first two values nor that for a refusal's spot; it is in the cell for a third
pub refreshed_cells : (told : Told) (flag : Bool) (count covered spot : ℕ)
    → (data_cell (with_refreshed told flag) 0 count ≡ data_cell told 0 count) × (data_cell (with_refreshed told flag) 1 covered ≡ data_cell told 1 covered)
    × (spot_cell (with_refreshed told flag) spot ≡ spot_cell told spot)
refreshed_cells told flag count covered spot = pick (eqb told.number 0) refl
  where
    pick : (b : Bool) → eqb told.number 0 ≡ b
        → (data_cell (with_refreshed told flag) 0 count ≡ data_cell told 0 count) × (data_cell (with_refreshed told flag) 1 covered ≡ data_cell told 1 covered)
        × (spot_cell (with_refreshed told flag) spot ≡ spot_cell told spot)
    pick true e = (rw e, rw e, rw e)
    pick false e = (rw e, rw e, rw e)

pub refreshed_cell_lem : (told : Told) (flag : Bool) (before : ℕ) → told.number ≡ 0 → data_cell (with_refreshed told flag) 2 before ≡ flag_number flag
refreshed_cell_lem told flag before e = rw (eq-eqb told.number 0 e)

-- a flag that is told crosses as its number: the byte that it is converted from
pub flag_byte : (flag : Bool) → bool_byte flag ≡ flag_number flag
flag_byte true = refl
flag_byte false = refl
