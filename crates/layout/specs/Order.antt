-- Order of a layout, as document 01 words it, and the directions in which rules move.
-- A layout is the list of its slots' entries, an empty slot's included; reading past its end gives the empty entry.
use Rattle.std.specs.Prelude.{◌≡◌, Bool, true, false, not, ◌&&◌, ◌⊎◌, ◌≢◌, List, ℕ, ◌<◌, length, get_or}
use Rattle.search.specs.Search.{all}

-- misordered a b: a standing in a lower slot than b is out of order, that is, b precedes a or the two tie.
-- same a b: both are occupied and have one id.
pub record Laws {S : Type 0} (empty : S) (occupied : S → Bool) (same misordered : S → S → Bool) : Type 0 where
  pub vacant : occupied empty ≡ false
  pub misordered_left : (a b : S) → occupied a ≡ false → misordered a b ≡ false
  pub misordered_right : (a b : S) → occupied b ≡ false → misordered a b ≡ false
  pub misordered_same : (a b : S) → same a b ≡ true → misordered a b ≡ false
  pub same_occupied : (a b : S) → same a b ≡ true → occupied a ≡ true
  pub same_self : (a : S) → occupied a ≡ true → same a a ≡ true
  pub same_symmetric : (a b : S) → same a b ≡ true → same b a ≡ true
  pub same_transitive : (a b c : S) → same a b ≡ true → same b c ≡ true → same a c ≡ true

-- a precedes b, and b depends on a: b before a is out of order, and a before b is not
abbrev pub precedes : {S : Type 0} → (S → S → Bool) → S → S → Bool
precedes misordered a b = misordered b a && not (misordered a b)

-- a and b tie: neither may stand before the other
abbrev pub ties : {S : Type 0} → (S → S → Bool) → S → S → Bool
ties misordered a b = misordered a b && misordered b a

module _ {S : Type 0} (empty : S) (misordered : S → S → Bool) where
  -- "the table is in order"
  abbrev pub InOrder : List S → Type 0
  InOrder t = (x y : ℕ) → x < y → y < length t → misordered (get_or t x empty) (get_or t y empty) ≡ false

  -- the same as a test
  unfoldable pub in_order : List S → Bool
  in_order t = all (λ y. all (λ x. not (misordered (get_or t x empty) (get_or t y empty))) y) (length t)

  -- the slots other than j are in order among themselves
  abbrev pub OthersInOrder : List S → ℕ → Type 0
  OthersInOrder t j = (x y : ℕ) → x < y → y < length t → x ≢ j → y ≢ j → misordered (get_or t x empty) (get_or t y empty) ≡ false

  -- the entry e in slot j stands right against each other slot; entries of its own id are not compared with it
  abbrev pub StandsRight : (S → S → Bool) → List S → ℕ → S → Type 0
  StandsRight same t j e =
      (k : ℕ) → k < length t → same (get_or t k empty) e ≡ false
      → (k < j → misordered (get_or t k empty) e ≡ false) × (j < k → misordered e (get_or t k empty) ≡ false)

-- order read along a direction: of two slots, where the one that comes first is x
abbrev pub InOrderAlong : {S : Type 0} → S → (ℕ → ℕ → Type 0) → (S → S → Bool) → List S → Type 0
InOrderAlong empty toward misplaced t =
    (x y : ℕ) → x < length t → y < length t → toward x y → misplaced (get_or t x empty) (get_or t y empty) ≡ false

-- A direction of moving: toward i j says that slot j comes after slot i, and misplaced a b that a coming before b is out of order.
-- Going down it is (<, misordered), going up (>, misordered with its arguments swapped). What both need is proved once, over this record.
pub record Direction {S : Type 0} (empty : S) (misordered : S → S → Bool) (toward : ℕ → ℕ → Type 0) (misplaced : S → S → Bool) : Type 0 where
  pub irreflexive : (i : ℕ) → toward i i → ⊥
  pub transitive : (i j k : ℕ) → toward i j → toward j k → toward i k
  pub total : (i j : ℕ) → i ≢ j → toward i j ⊎ toward j i
  pub along : (t : List S) → InOrder empty misordered t → InOrderAlong empty toward misplaced t
  pub ordered : (t : List S) → InOrderAlong empty toward misplaced t → InOrder empty misordered t

abbrev pub Higher : ℕ → ℕ → Type 0
Higher i j = i < j

abbrev pub Lower : ℕ → ℕ → Type 0
Lower i j = j < i

abbrev pub swapped : {S : Type 0} → (S → S → Bool) → S → S → Bool
swapped misordered a b = misordered b a
