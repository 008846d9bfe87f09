-- Laws on a layout after one write: what holds of the entry written, and of each other entry or pair of entries, holds throughout.
-- Order, ids and copies after a write are all read so.
use Rattle.std.specs.Prelude.{◌≡◌, refl, ◌≢◌, List, ℕ, ◌<◌, length, get_or, set}
use Rattle.std.proofs.Math.Decide.{ℕ_discrete}
use Rattle.std.proofs.Common.{get_or-set_same, get_or-set_other}

module _ {S : Type 0} (empty : S) (t : List S) (j : ℕ) (e : S) (inside : j < length t) where
  pub entry_written : (P : ℕ → S → Type 0) → P j e → ((x : ℕ) → x < length t → x ≢ j → P x (get_or t x empty))
      → (x : ℕ) → x < length t → P x (get_or (set t j e) x empty)
  entry_written P here other x b = pick (ℕ_discrete x j)
    where
      pick : Dec (x ≡ j) → P x (get_or (set t j e) x empty)
      pick (yes d) = rw (d, get_or-set_same t j e empty inside) here
      pick (no d) = rw (get_or-set_other t j x e empty d) (other x b d)

  pub pairs_written : (P : ℕ → ℕ → S → S → Type 0)
      → ((k : ℕ) → k < length t → k ≢ j → P k j (get_or t k empty) e) → ((k : ℕ) → k < length t → k ≢ j → P j k e (get_or t k empty))
      → ((x y : ℕ) → x < length t → y < length t → x ≢ j → y ≢ j → x ≢ y → P x y (get_or t x empty) (get_or t y empty))
      → (x y : ℕ) → x < length t → y < length t → x ≢ y → P x y (get_or (set t j e) x empty) (get_or (set t j e) y empty)
  pairs_written P to-it from-it others x y a b =
      entry_written (λ x v. x ≢ y → P x y v (get_or (set t j e) y empty))
      (λ d. entry_written (λ y v. j ≢ y → P j y e v) (λ d. absurd (d refl)) (λ y b q d. from-it y b q) y b d)
      (λ x a p d. entry_written (λ y v. x ≢ y → P x y (get_or t x empty) v) (λ d. to-it x a p) (λ y b q d. others x y a b p q d) y b d) x a
