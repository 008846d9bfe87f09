-- The cost of a slot: how many moves empty it, each entry moving within its window. Document 01, "How a plan is found".
-- One definition serves both directions: up costs are those of the reversed layout with the relation swapped.
use Rattle.std.specs.Prelude.{◌≡◌, Bool, true, false, cond, ◌⊎◌, List, [], ◌∷◌, ℕ, suc, ◌-◌, ◌≤◌, ◌<◌, min, length, get_or}
use Rattle.search.specs.Search.{least}
use Rattle.layout.specs.Minimum.{minimum, lowest_at}

-- Slot j is in the window of slot i: it comes after i, and no slot between the two holds a dependant of i's rule.
-- So the window reaches up to and including the nearest dependant, or to the layout's end.
pub record InWindow {S : Type 0} (empty : S) (toward : ℕ → ℕ → Type 0) (misplaced : S → S → Bool) (t : List S) (i j : ℕ) : Type 0 where
  pub inside : j < length t
  pub after : toward i j
  pub between : (y : ℕ) → y < length t → toward i y → toward y j → misplaced (get_or t y empty) (get_or t i empty) ≡ false

-- each slot after i is in its window, or past a dependant that is in it
abbrev pub WindowOrPast : {S : Type 0} → S → (ℕ → ℕ → Type 0) → (S → S → Bool) → List S → Type 0
WindowOrPast empty toward misplaced t =
    (i j : ℕ) → i < length t → j < length t → toward i j
    → InWindow empty toward misplaced t i j
    ⊎ ((y : ℕ) × InWindow empty toward misplaced t i y × toward y j × (misplaced (get_or t y empty) (get_or t i empty) ≡ true))

module _ {S : Type 0} (empty : S) (misplaced : S → S → Bool) where
  -- one past the last slot of i's window, going toward higher slots: the last is the nearest dependant, or the layout's last slot
  unfoldable pub window_end : List S → ℕ → ℕ
  window_end t i = min (suc (least (λ y. misplaced (get_or t y empty) (get_or t i empty)) (length t - suc i) (suc i))) (length t)

module _ {S : Type 0} (empty : S) (occupied : S → Bool) (misplaced : S → S → Bool) where
  -- Of each slot: 0 if empty, else 1 + the least cost in its window; slot k + 1 is the rest's slot k. A cost of top or more is infinite.
  unfoldable pub costs : ℕ → List S → List ℕ
  costs top [] = []
  costs top (e ∷ rest) =
      let after = costs top rest in
      cond (occupied e) (suc (minimum (λ k. get_or after k top) top (window_end empty misplaced (e ∷ rest) 0 - 1) 0)) 0 ∷ after

  -- the cost of slot i; past the end it is infinite
  abbrev pub slot_cost : ℕ → List S → ℕ → ℕ
  slot_cost top t i = get_or (costs top t) i top

-- What a cost is, by slot number and in either direction: this says all that document 01 says of it.
pub record Costs {S : Type 0} (empty : S) (occupied : S → Bool) (toward : ℕ → ℕ → Type 0) (misplaced : S → S → Bool) (t : List S) (top : ℕ)
    (c : ℕ → ℕ) : Type 0 where
  pub vacant : (i : ℕ) → i < length t → occupied (get_or t i empty) ≡ false → c i ≡ 0
  -- no slot of the window costs less
  pub within : (i j : ℕ) → i < length t → occupied (get_or t i empty) ≡ true → InWindow empty toward misplaced t i j → c i ≤ suc (c j)
  pub bounded : (i : ℕ) → i < length t → c i ≤ suc top
  -- a finite cost is that of a slot of the window, plus 1; and where ties are, of the one that comes first
  pub next : (i : ℕ) → i < length t → occupied (get_or t i empty) ≡ true → c i ≤ top
      → (j : ℕ) × InWindow empty toward misplaced t i j × (c i ≡ suc (c j)) × ((y : ℕ) → y < length t → toward i y → toward y j → c j < c y)

module _ {S : Type 0} (empty : S) (occupied : S → Bool) (misplaced : S → S → Bool) (top : ℕ) (t : List S) where
  -- the slot to which the rule of slot s moves: the lowest_at of least cost in its window
  unfoldable pub next_slot : ℕ → ℕ
  next_slot s = lowest_at (slot_cost empty occupied misplaced top t) top (window_end empty misplaced t s - suc s) (suc s)
