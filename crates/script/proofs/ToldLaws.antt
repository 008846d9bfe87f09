-- Laws on what T is answered: by a good number of slots, and by another.
use Rattle.std.specs.Prelude.{◌≡◌, true, false, ◌&&◌, [], ◌∷◌, ℕ, leb}
use Rattle.records.specs.Checks.{success, refusal}
use Rattle.records.specs.declared.Cause.TheVariants.{Shape}
use Rattle.script_operations.specs.Told.{lettered}
use Rattle.script.specs.Told.{table_told}

pub table_told_lem : (slots : ℕ) → leb 1 slots && leb slots 1024 ≡ true → lettered 78 (success (slots ∷ [])) ≡ table_told slots
unfolding table_told
table_told_lem slots e = rw e

pub table_untold : (slots : ℕ) → leb 1 slots && leb slots 1024 ≡ false → lettered 82 (refusal Shape 0) ≡ table_told slots
unfolding table_told
table_untold slots e = rw e
