-- End theorems on order: what one write does to it, and order read along a direction.
use Rattle.std.specs.Prelude.{◌≡◌, Bool, true, false, ◌↔◌, ◌⊎◌, ◌≢◌, List, ℕ, ◌<◌, length, get_or, set}
use Rattle.std.proofs.Common.{sym, subst, ⊎_elim, arith, length-set, get_or-set_same, get_or-set_other}
use Rattle.std.proofs.Math.Path.{ap}
use Rattle.std.proofs.Math.Bool.{not}
use Rattle.std.proofs.Math.Logic.◌⊎◌.{inl, inr}
use Rattle.std.proofs.Math.Decide.{dec_lt}
use Rattle.std.proofs.Math.Seq.{set_out}
use borrow.Author.Tests.{not-true}
use Rattle.search.specs.SearchLaws.{all_law, decided}
use Rattle.layout.proofs.WrittenLaws.{pairs_written}
use Rattle.layout.specs.Order.{in_order, StandsRight, OthersInOrder, Direction, Higher, Lower, Laws, swapped, InOrder}

module _ {S : Type 0} (empty : S) (misordered : S → S → Bool) where
  pub in_order_law : (t : List S) → (in_order empty misordered t ≡ true) ↔ InOrder empty misordered t
  unfolding in_order
  in_order_law t = (
    λ e x y l h. not-true _ ((all_law _ y).0 ((all_law _ (length t)).0 e y h) x l),
    λ o. (all_law _ (length t)).1 (λ y h. (all_law _ y).1 (λ x l. ap not (o x y l h))),
  )

module _ {S : Type 0} {empty : S} {occupied : S → Bool} {same misordered : S → S → Bool} (laws : Laws empty occupied same misordered) where
  -- copies of one id are never compared
  pub copies_not_compared : (a b : S) → same a b ≡ true → (misordered a b ≡ false) × (misordered b a ≡ false)
  copies_not_compared a b e = (laws.misordered_same a b e, laws.misordered_same b a (laws.same_symmetric a b e))

  -- after a write the layout is in order exactly when the others were and the entry written stands right against each of them
  pub in_order_written : (t : List S) (j : ℕ) (e : S) → j < length t
      → InOrder empty misordered (set t j e) ↔ (OthersInOrder empty misordered t j × StandsRight empty misordered same t j e)
  in_order_written t j e h = (forth, λ w. back w.0 w.1)
    where
      n : length (set t j e) ≡ length t
      n = length-set t j e

      other : (x : ℕ) → x ≢ j → get_or (set t j e) x empty ≡ get_or t x empty
      other x d = get_or-set_other t j x e empty d

      here : get_or (set t j e) j empty ≡ e
      here = get_or-set_same t j e empty h

      forth : InOrder empty misordered (set t j e) → OthersInOrder empty misordered t j × StandsRight empty misordered same t j e
      forth o = (
        λ x y l r p q. rw (other x p, other y q) at (o x y l (omega (arith, n))),
        λ k b s. (λ l. rw (other k (omega arith), here) at (o k j l (omega (arith, n))), λ l. rw (other k (omega arith), here) at (o j k l (omega (arith, n)))),
      )

      back : OthersInOrder empty misordered t j → StandsRight empty misordered same t j e → InOrder empty misordered (set t j e)
      back o s x y l r =
          pairs_written empty t j e h (λ x y a b. x < y → misordered a b ≡ false) (λ k b d. (against k b).0) (λ k b d. (against k b).1)
          (λ x y a b p q d l. o x y l b p q) x y (omega (arith, n)) (omega (arith, n)) (omega arith) l
        where
          -- entries of one id are in order anyway
          against : (k : ℕ) → k < length t → (k < j → misordered (get_or t k empty) e ≡ false) × (j < k → misordered e (get_or t k empty) ≡ false)
          against k b = ⊎_elim
              (λ a. let c = copies_not_compared (get_or t k empty) e a in (λ l. c.0, λ l. c.1)) (λ a. s k b a) (decided (same (get_or t k empty) e))

  -- order is hereditary: emptying any slot keeps it
  pub in_order_emptied : (t : List S) (j : ℕ) → InOrder empty misordered t → InOrder empty misordered (set t j empty)
  in_order_emptied t j o = pick (dec_lt j (length t))
    where
      pick : Dec (j < length t) → InOrder empty misordered (set t j empty)
      pick (yes h) =
          (in_order_written t j empty h).1
          (λ x y l r p q. o x y l r, λ k b s. (λ l. laws.misordered_right _ _ laws.vacant, λ l. laws.misordered_left _ _ laws.vacant))
      pick (no h) = rw (set_out t j empty (omega arith)) o

-- two different numbers are one way round or the other
apart : (i j : ℕ) → i ≢ j → (i < j) ⊎ (j < i)
apart i j ne = pick (dec_lt i j)
  where
    pick : Dec (i < j) → (i < j) ⊎ (j < i)
    pick (yes l) = inl l
    pick (no l) = inr (omega arith)

pub down : {S : Type 0} (empty : S) (misordered : S → S → Bool) → Direction empty misordered Higher misordered
down empty misordered = record {
  irreflexive = λ i l. omega arith;
  transitive = λ i j k l r. omega arith;
  total = apart;
  along = λ t o x y a b l. o x y l b;
  ordered = λ t o x y l b. o x y (omega arith) b l;
}

pub up : {S : Type 0} (empty : S) (misordered : S → S → Bool) → Direction empty misordered Lower (swapped misordered)
up empty misordered = record {
  irreflexive = λ i l. omega arith;
  transitive = λ i j k l r. omega arith;
  total = λ i j ne. apart j i (λ e. ne (sym e));
  along = λ t o x y a b l. o y x l a;
  ordered = λ t o x y l b. o y x b (omega arith) l;
}

module _ {S : Type 0} {empty : S} {misordered misplaced : S → S → Bool} {toward : ℕ → ℕ → Type 0} (direction : Direction empty misordered toward misplaced) where
  pub asymmetric : (x y : ℕ) → toward x y → toward y x → ⊥
  asymmetric x y l r = direction.irreflexive x (direction.transitive x y x l r)

  pub toward_distinct : (x y : ℕ) → toward x y → x ≢ y
  toward_distinct x y l d = direction.irreflexive y (subst (λ (z : ℕ). toward z y) d l)

  -- a write keeps order if its entry stands right against what comes before it and after it
  pub in_order_put : (t : List S) (j : ℕ) (e : S) → j < length t → InOrder empty misordered t
      → ((k : ℕ) → k < length t → toward k j → misplaced (get_or t k empty) e ≡ false)
      → ((k : ℕ) → k < length t → toward j k → misplaced e (get_or t k empty) ≡ false) → InOrder empty misordered (set t j e)
  in_order_put t j e h o before after =
      let n : length (set t j e) ≡ length t = length-set t j e in
      direction.ordered (set t j e) (λ x y a b l.
      pairs_written empty t j e h (λ x y a b. toward x y → misplaced a b ≡ false) (λ k b d. before k b) (λ k b d. after k b)
      (λ x y a b p q d l. direction.along t o x y a b l) x y (omega arith) (omega arith) (toward_distinct x y l) l)

  -- and only then
  pub in_order_shows : (t : List S) (j : ℕ) (e : S) → j < length t → InOrder empty misordered (set t j e) → (k : ℕ) → k < length t
      → (toward k j → misplaced (get_or t k empty) e ≡ false) × (toward j k → misplaced e (get_or t k empty) ≡ false)
  in_order_shows t j e h o k b =
      let n : length (set t j e) ≡ length t = length-set t j e in
      let here : get_or (set t j e) j empty ≡ e = get_or-set_same t j e empty h in (
        λ l. rw (get_or-set_other t j k e empty (toward_distinct k j l), here) at (direction.along (set t j e) o k j (omega arith) (omega arith) l),
        λ l. rw (get_or-set_other t j k e empty (λ d. toward_distinct j k l (sym d)), here) at (direction.along (set t j e) o j k (omega arith) (omega arith) l),
      )

-- the laws are the same in both directions
pub laws_swapped : {S : Type 0} {empty : S} {occupied : S → Bool} {same misordered : S → S → Bool}
    → Laws empty occupied same misordered → Laws empty occupied same (swapped misordered)
laws_swapped laws = record {
  vacant = laws.vacant;
  misordered_left = λ a b o. laws.misordered_right b a o;
  misordered_right = λ a b o. laws.misordered_left b a o;
  misordered_same = λ a b s. laws.misordered_same b a (laws.same_symmetric a b s);
  same_occupied = laws.same_occupied;
  same_self = laws.same_self;
  same_symmetric = laws.same_symmetric;
  same_transitive = laws.same_transitive;
}
