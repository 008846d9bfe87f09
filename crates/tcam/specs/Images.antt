-- What the exported calls that save and load leave: their result, the lent buffer and the lent cells, before and after.
-- The answers, the saved bytes and the loaded words are the image library's.
use Rattle.std.specs.Prelude.{◌≡◌, Bool, List, ℕ, length}
use Rattle.image.specs.Answers.{save_call, save_call_buffer, load_call, load_call_table}
use Rattle.marshalling.specs.Cells.{spot_cell}
use Rattle.tcam.specs.Cells.{PlanLeft}

-- a save: its number, the image buffer, the cell for the bytes and the cell for a refusal's spot
abbrev pub SaveLeft : ℕ → Bool → List ℕ → ℕ → List ℕ → List ℕ → ℕ → ℕ → ℕ → ℕ → Type 0
SaveLeft w u t result image after = PlanLeft (save_call w u t (length image)) (save_call_buffer w u t image) result after

-- a load: its number, the lent table and the cell for a refusal's spot
pub record LoadLeft (w : ℕ) (u : Bool) (b : List ℕ) (result : ℕ) (t after : List ℕ) (spot spot' : ℕ) : Type 0 where
  pub number : result ≡ (load_call w u b t).number
  pub loaded : after ≡ load_call_table w u b t
  pub spotted : spot' ≡ spot_cell (load_call w u b t) spot
