-- End theorems on the answers of saving and loading: number and values lose nothing.
use Rattle.std.specs.Prelude.{◌≡◌, refl, List, ℕ, Result, get_or}
use Rattle.std.proofs.Common.{ap}
use Rattle.records.specs.declared.Refusal.{Refusal}
use Rattle.records.proofs.Laws.{answer_told_once}
use Rattle.image.specs.declared.SaveInfo.{SaveInfo}
use Rattle.image.specs.Answers.{load_told, save_told}

-- an answer's number and values lose nothing
pub save_told_once : (a b : Result SaveInfo Refusal) → save_told a ≡ save_told b → a ≡ b
save_told_once = answer_told_once _ (λ x y e i. record { bytes = ap (λ (l : List ℕ). get_or l 0 0) e i })

pub load_told_once : (a b : Result (Unit {0}) Refusal) → load_told a ≡ load_told b → a ≡ b
load_told_once = answer_told_once _ (λ x y e. refl)
