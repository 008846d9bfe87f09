-- What a layout holds, and what copies, put-ins and emptyings do to it.
-- Ids may stand in several slots; the premise is that a layout is coherent: entries of one id are equal.
use Rattle.std.specs.Prelude.{◌≡◌, Bool, true, false, not, ◌&&◌, ◌||◌, ◌⊎◌, ◌≢◌, List, ℕ, ◌<◌, eqb, length, get_or, set}
use Rattle.search.specs.Search.{any}

module _ {S : Type 0} (empty : S) where
  -- the three kinds of write
  abbrev pub copied : List S → ℕ → ℕ → List S
  copied t from to = set t to (get_or t from empty)

  abbrev pub filled : List S → ℕ → S → List S
  filled t to e = set t to e

  abbrev pub emptied : List S → ℕ → List S
  emptied t to = set t to empty

module _ {S : Type 0} (empty : S) (occupied : S → Bool) where
  -- an occupied entry that stands in some slot
  abbrev pub Held : List S → S → Type 0
  Held t e = (occupied e ≡ true) × ((i : ℕ) × (i < length t) × (get_or t i empty ≡ e))

module _ {S : Type 0} (empty : S) (same : S → S → Bool) where
  -- each id stands once
  abbrev pub Unique : List S → Type 0
  Unique t = (i k : ℕ) → i < length t → k < length t → i ≢ k → same (get_or t i empty) (get_or t k empty) ≡ false

  -- entries of one id are equal
  abbrev pub Coherent : List S → Type 0
  Coherent t = (i k : ℕ) → i < length t → k < length t → same (get_or t i empty) (get_or t k empty) ≡ true → get_or t i empty ≡ get_or t k empty

  -- the entry's id stands in no slot
  abbrev pub NewId : List S → S → Type 0
  NewId t e = (k : ℕ) → k < length t → same (get_or t k empty) e ≡ false

  -- the id in slot j stands in another slot too
  abbrev pub Elsewhere : List S → ℕ → Type 0
  Elsewhere t j = (k : ℕ) × (k < length t) × (k ≢ j) × (same (get_or t k empty) (get_or t j empty) ≡ true)

  -- at most one pair of different slots has one id
  abbrev pub OnePair : List S → Type 0
  OnePair t =
      (i k p q : ℕ) → i < k → k < length t → p < q → q < length t
      → same (get_or t i empty) (get_or t k empty) ≡ true → same (get_or t p empty) (get_or t q empty) ≡ true → (i ≡ p) × (k ≡ q)

module _ {S : Type 0} (empty : S) (occupied : S → Bool) (same : S → S → Bool) where
  -- a write to slot j loses no rule: "an empty slot or one whose id stands in another slot too"
  abbrev pub Free : List S → ℕ → Type 0
  Free t j = (occupied (get_or t j empty) ≡ false) ⊎ Elsewhere empty same t j

  -- the same as a test
  unfoldable pub free : List S → ℕ → Bool
  free t j = not (occupied (get_or t j empty)) || any (λ k. not (eqb k j) && same (get_or t k empty) (get_or t j empty)) (length t)
