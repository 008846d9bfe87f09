-- End theorems on saving and loading from C: what a successful save left is loaded to the table that was saved.
use Rattle.std.specs.Prelude.{◌≡◌, refl, Bool, true, false, List, [], ◌∷◌, ℕ, length, take}
use Rattle.std.proofs.Common.{sym, ap, ◌∙◌, subst}
use Rattle.records.specs.Checks.{Told, success}
use Rattle.image.specs.Format.{image_bytes, rule_count}
use Rattle.image.specs.Answers.{save_call_buffer, load_call, load_call_table}
use Rattle.image.specs.Reading.{Words64}
use Rattle.image.proofs.RoundTripLaws.{save_call_number, saved_loads_call, saved_loosened}
use Rattle.marshalling.specs.Cells.{data_cell, spot_cell}
use Rattle.tcam.specs.Images.{SaveLeft, LoadLeft}

-- what a save leaves of a table named as counted it would leave of the same table named as uncounted
left_loosened : (v u : Bool) → (v ≡ true → u ≡ true) → (w : ℕ) (t image saved : List ℕ) (bytes bytes' spot spot' : ℕ)
    → SaveLeft w v t 0 image saved bytes bytes' spot spot' → SaveLeft w u t 0 image saved bytes bytes' spot spot'
left_loosened true u later w t image saved bytes bytes' spot spot' left =
    subst (λ (x : Bool). SaveLeft w x t 0 image saved bytes bytes' spot spot') (sym (later refl)) left
left_loosened false u later w t image saved bytes bytes' spot spot' left =
    let same = saved_loosened w u t image left.number in record {
      number = left.number ∙ ap (λ (x : Told). x.number) same.0;
      plan = left.plan ∙ same.1;
      counted = left.counted ∙ ap (λ (x : Told). data_cell x 0 bytes) same.0;
      spotted = left.spotted ∙ ap (λ (x : Told). spot_cell x spot) same.0;
    }

-- Calls one after the other: the bytes that a save told, of the buffer that it left, are loaded at the same width into any table of as many words.
-- The load succeeds and leaves the table that was saved. It is named alike both times, or as uncounted from some call after the save on.
pub save_load_call : (v u : Bool) → (v ≡ true → u ≡ true) → (w : ℕ) (t image saved : List ℕ) (bytes bytes' spot spot' : ℕ)
    → Words64 t → SaveLeft w v t 0 image saved bytes bytes' spot spot'
    → (lent loaded : List ℕ) (result place place' : ℕ) → length lent ≡ length t → LoadLeft w u (take bytes' saved) result lent loaded place place'
    → (result ≡ 0) × (loaded ≡ t) × (place' ≡ place)
save_load_call v u later w t image saved bytes bytes' spot spot' sixty-four first lent loaded result place place' size load =
    let left = left_loosened v u later w t image saved bytes bytes' spot spot' first in
    let told = save_call_number w u t (length image) left.number in
    let count : bytes' ≡ image_bytes w (rule_count w t) = left.counted ∙ ap (λ (answer : Told). data_cell answer 0 bytes) told in
    let loads = saved_loads_call w u t image bytes' sixty-four (told ∙ ap (λ (k : ℕ). success (k ∷ [])) (sym count)) lent size in
    let same : take bytes' saved ≡ take bytes' (save_call_buffer w u t image) = ap (take bytes') left.plan in
    let answer : load_call w u (take bytes' saved) lent ≡ success [] = ap (λ (b : List ℕ). load_call w u b lent) same ∙ loads.0 in (
      load.number ∙ ap (λ (x : Told). x.number) answer,
      load.loaded ∙ (ap (λ (b : List ℕ). load_call_table w u b lent) same ∙ loads.1),
      load.spotted ∙ ap (λ (x : Told). spot_cell x place) answer,
    )
