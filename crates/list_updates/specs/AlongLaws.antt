-- Laws on a list that is brought up to date along one direction, position after position up to the written slot's.
use Rattle.std.specs.Prelude.{◌≡◌, refl, Bool, true, false, not, List, ℕ, ◌+◌, ◌*◌, ◌≤◌, ◌<◌, length, get_or, set}
use Rattle.std.proofs.Common.{sym, ap, ◌∙◌, arith, length-set, get_or-set_same, get_or-set_other}
use Rattle.std.proofs.Math.Decide.{dec_lt, ℕ_discrete}
use Rattle.search.specs.Search.{NoneFrom}
use Rattle.positions.specs.Positions.{slot_at}
use Rattle.positions.proofs.PositionsLaws.{slot_below}
use Rattle.records.specs.Record.{slot_words, empty}
use Rattle.records.specs.Order.{slots}
use Rattle.neighbour_lists.specs.Lists.{Listed}
use Rattle.list_updates.specs.Updates.{number_along, place_along, asks_at, ListedAlong, AlongBefore, NumberBefore}
use Rattle.list_updates.specs.SearchesLaws.{place_below}
use Rattle.list_updates.specs.UpdatesLaws.{slot_turns, past_stays, number_unasked}

-- the numbers of the slots at positions below q are those of the table, the others as they were
pub record Updated (w : ℕ) (u : Bool) (t : List ℕ) (up : Bool) (before list : List ℕ) (q : ℕ) : Type 0 where
  pub size : length list ≡ length before
  pub first : (p : ℕ) → p < q → p < slots w t → get_or list (place_along up (slot_at (slots w t) up p)) 0 ≡ number_along w u t up (slot_at (slots w t) up p)
  pub rest : (p : ℕ) → q ≤ p → p < slots w t → get_or list (place_along up (slot_at (slots w t) up p)) 0 ≡ get_or before (place_along up (slot_at (slots w t) up p)) 0
  pub other : (i : ℕ) → get_or list (place_along (not up) i) 0 ≡ get_or before (place_along (not up) i) 0

pub updated_start : (w : ℕ) (u : Bool) (t : List ℕ) (up : Bool) (list : List ℕ) → Updated w u t up list list 0
updated_start w u t up list = record { size = refl; first = λ p l h. absurd (omega arith); rest = λ p l h. refl; other = λ i. refl }

-- places of two positions, and of the two directions
place_once : (n : ℕ) (up : Bool) (p q : ℕ) → p < n → q < n → place_along up (slot_at n up p) ≡ place_along up (slot_at n up q) → p ≡ q
place_once n true p q h l e = omega arith
place_once n false p q h l e = omega arith

place_apart : (up : Bool) (i j : ℕ) → place_along (not up) i ≡ place_along up j → ⊥
place_apart true i j e = omega arith
place_apart false i j e = omega arith

-- a number stored at the next position
pub updated_set : (w : ℕ) (u : Bool) (t : List ℕ) (up : Bool) (before list : List ℕ) (q v : ℕ) → Updated w u t up before list q → q < slots w t → 2 * slots w t ≤ length before
    → v ≡ number_along w u t up (slot_at (slots w t) up q) → Updated w u t up before (set list (place_along up (slot_at (slots w t) up q)) v) (q + 1)
updated_set w u t up before list q v s h room e = record {
  size = length-set list place v ∙ s.size;
  first = λ p l b. at p l b (ℕ_discrete p q);
  rest = λ p l b. get_or-set_other list place (place_along up (slot_at (slots w t) up p)) v 0 (λ d. omega (arith, place_once (slots w t) up p q b h d)) ∙ s.rest p (omega arith) b;
  other = λ i. get_or-set_other list place (place_along (not up) i) v 0 (place_apart up i (slot_at (slots w t) up q)) ∙ s.other i;
}
  where
    place : ℕ
    place = place_along up (slot_at (slots w t) up q)

    within : place < length list
    within = let n = s.size in omega (arith, n, place_below up (slots w t) (slot_at (slots w t) up q) (slot_below (slots w t) up q h))

    at : (p : ℕ) → p < q + 1 → p < slots w t → Dec (p ≡ q) → get_or (set list place v) (place_along up (slot_at (slots w t) up p)) 0 ≡ number_along w u t up (slot_at (slots w t) up p)
    at p l b (yes d) =
        ap (λ (k : ℕ). get_or (set list place v) (place_along up (slot_at (slots w t) up k)) 0) d
        ∙ (get_or-set_same list place v 0 within ∙ (e ∙ ap (λ (k : ℕ). number_along w u t up (slot_at (slots w t) up k)) (sym d)))
    at p l b (no d) =
        get_or-set_other list place (place_along up (slot_at (slots w t) up p)) v 0 (λ f. d (place_once (slots w t) up p q b h f)) ∙ s.first p (omega arith) b

module _ (w : ℕ) (u : Bool) (t : List ℕ) (up : Bool) (g : ℕ) (few : slots w t ≤ 1024) (within : g < slots w t) (before : List ℕ) (was : AlongBefore w u t g up before) where
  -- a number that is not stored yet is that of the table before the write
  pub number_before : (list : List ℕ) (q p : ℕ) → Updated w u t up before list q → q ≤ p → p < slots w t
      → NumberBefore w u t g up (slot_at (slots w t) up p) (get_or list (place_along up (slot_at (slots w t) up p)) 0)
  number_before list q p s l h =
      (was.0, was.1, s.rest p l h ∙ was.2 (slot_at (slots w t) up p) (let below = slot_below (slots w t) up p h in let size = was.1.0 in omega arith))

  -- positions that are skipped, since their slots are not asked again
  pub updated_skip : (vacant : Bool) → 2 ≤ w → vacant ≡ empty w (slot_words w t g) → (list : List ℕ) (q r : ℕ) → Updated w u t up before list q
      → NoneFrom (asks_at w t list g vacant up) q (slot_at (slots w t) up g) r → Updated w u t up before list r
  updated_skip vacant wide e list q r s none = record {
    size = s.size;
    first = λ p l h. at p l h (dec_lt p q);
    rest = λ p l h. s.rest p (let low = none.0 in omega arith) h;
    other = s.other;
  }
    where
      at : (p : ℕ) → p < r → (h : p < slots w t) → Dec (p < q) → get_or list (place_along up (slot_at (slots w t) up p)) 0 ≡ number_along w u t up (slot_at (slots w t) up p)
      at p l h (yes d) = s.first p d h
      at p l h (no d) =
          let slot = slot_at (slots w t) up p in
          let old = number_before list q p s (omega arith) h in
          number_unasked w u t up g few within old.0 old.1 slot (get_or list (place_along up slot) 0) (slot_below (slots w t) up p h)
          (let high = none.1 in omega (arith, slot_turns (slots w t) up p h)) old.2 vacant wide e (none.2 p (omega arith) l)

  -- once the written slot's own number is stored the list is the table's, along this direction
  pub updated_all : (list : List ℕ) → Updated w u t up before list (slot_at (slots w t) up g + 1) → ListedAlong w u t up list
  updated_all list s i h = sym (turned (λ (k : ℕ). get_or list (place_along up k) 0)) ∙ (at (dec_lt p (slot_at (slots w t) up g + 1)) ∙ turned (number_along w u t up))
    where
      p : ℕ
      p = slot_at (slots w t) up i

      below : p < slots w t
      below = slot_below (slots w t) up i h

      turned : (f : ℕ → ℕ) → f (slot_at (slots w t) up p) ≡ f i
      turned f = ap f (slot_turns (slots w t) up i h)

      at : Dec (p < slot_at (slots w t) up g + 1) → get_or list (place_along up (slot_at (slots w t) up p)) 0 ≡ number_along w u t up (slot_at (slots w t) up p)
      at (yes l) = s.first p l below
      at (no l) =
          let old = number_before list (slot_at (slots w t) up g + 1) p s (omega arith) below in
          old.2
          ∙ past_stays w u t up g few within old.0 old.1 (slot_at (slots w t) up p) (slot_below (slots w t) up p below)
          (omega (arith, slot_turns (slots w t) up p below))

-- the two directions of a list
pub along_listed : (w : ℕ) (u : Bool) (t list : List ℕ) → ListedAlong w u t false list → ListedAlong w u t true list → Listed w u t list
unfolding number_along
along_listed w u t list down up i h = (down i h, up i h)

pub listed_along : (w : ℕ) (u : Bool) (t : List ℕ) (up : Bool) (list : List ℕ) → Listed w u t list → ListedAlong w u t up list
unfolding number_along
listed_along w u t true list f i h = (f i h).1
listed_along w u t false list f i h = (f i h).0
