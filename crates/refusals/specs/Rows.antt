-- A row of document 01's table "Why a call declines", and what it means that a call declines by a list of rows.
-- The rows of each call are in Calls.
use Rattle.std.specs.Prelude.{◌≡◌, ◌↔◌, ◌⊎◌, List, [], ◌∷◌, ℕ, ◌<◌}
use Prim.{Unit}
use Rattle.records.specs.Checks.{Told, success, refusal}
use Rattle.records.specs.declared.Cause.{Cause}

-- A row: the cause, whose number is cause_number; the condition on which the call declines; and which numbers are the spot then.
pub record Row : Type 1 where
  pub cause : Cause
  pub condition : Type 0
  pub spot : ℕ → Type 0

-- the row of a condition whose spot is one number
abbrev pub row_at : Cause → Type 0 → ℕ → Row
row_at cause condition number = record { cause = cause; condition = condition; spot = λ spot. spot ≡ number }

-- of n slots the lowest that something is wrong with
abbrev pub Lowest : ℕ → (ℕ → Type 0) → ℕ → Type 0
Lowest n Wrong spot = (spot < n) × Wrong spot × ((i : ℕ) → i < spot → Wrong i → ⊥)

-- the row of slots that something is wrong with: the spot is the lowest of them
abbrev pub slot_row : Cause → ℕ → (ℕ → Type 0) → Row
slot_row cause n Wrong = record { cause = cause; condition = (i : ℕ) × (i < n) × Wrong i; spot = Lowest n Wrong }

-- a call declines with this cause and this spot: the conditions of the rows before do not hold, and the row's own does
abbrev pub Declines : List Row → Cause → ℕ → Type 0
Declines [] cause spot = ⊥
Declines (row ∷ rows) cause spot =
    ((row.cause ≡ cause) × row.condition × row.spot spot) ⊎ ((row.condition → ⊥) × Declines rows cause spot)

-- no condition holds
abbrev pub Accepts : List Row → Type 0
Accepts [] = Unit {0}
Accepts (row ∷ rows) = (row.condition → ⊥) × Accepts rows

-- What a list of rows says of a call's answer: it is a success or a refusal; it is a refusal with a cause, its number and a spot exactly when the rows decline so, and a success
-- exactly when no condition holds.
pub record AnsweredBy (rows : List Row) (told : Told) : Type 0 where
  pub either : ((values : List ℕ) × (told ≡ success values)) ⊎ ((cause : Cause) × (spot : ℕ) × (told ≡ refusal cause spot))
  pub declined : (cause : Cause) (spot : ℕ) → (told ≡ refusal cause spot) ↔ Declines rows cause spot
  pub accepted : (told.number ≡ 0) ↔ Accepts rows
