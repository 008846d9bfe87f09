-- What a load that succeeds leaves.
-- Stated of the functions that the contracts of save and load cite.
use Rattle.std.specs.Prelude.{◌≡◌, Bool, List, ℕ, length}
use Rattle.records.specs.Checks.{table_checks}
use Rattle.records.specs.Verdict.{Pass}
use Rattle.image.specs.Format.{image_of}
use Rattle.image.specs.Answers.{load_table}
use Rattle.image.specs.Reading.{Words64}

-- What a load that succeeds leaves: a sound table of the lent table's length, whose image is the one that was loaded.
pub record Loads (w : ℕ) (u : Bool) (b lent : List ℕ) : Type 0 where
  pub sound : table_checks w u (load_table w u b lent) ≡ Pass
  pub words : Words64 (load_table w u b lent)
  pub size : length (load_table w u b lent) ≡ length lent
  pub image : image_of w (load_table w u b lent) ≡ b
