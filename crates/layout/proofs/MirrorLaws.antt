-- Laws on the mirror image of a layout: what is proved of windows and costs going down holds of it going up.
-- Nothing else is mirrored: order, writes and sequences of writes are the same layout's in both directions.
use Rattle.std.specs.Prelude.{◌≡◌, Bool, true, ◌↔◌, ◌⊎◌, ℕ, suc, ◌-◌, ◌<◌, length, get_or}
use Rattle.std.proofs.Common.{ap, ◌∙◌, arith}
use Rattle.std.proofs.Math.Logic.◌⊎◌.{inl, inr}
use mathlib.Core.List.{List, [], ◌∷◌, ◌++◌, reverse, reverse-cons}
use Rattle.std.proofs.Math.Decide.{dec_lt}
use Rattle.std.proofs.lemmas.List.{length-reverse, get_or_at}
use Rattle.std.proofs.Math.ListN.{get_or-append}
use Rattle.layout.specs.Order.{Higher, Lower}
use Rattle.layout.specs.Cost.{InWindow, Costs, WindowOrPast}
use Rattle.layout.specs.Mirror.{mirror}

pub mirror_twice : (n i : ℕ) → i < n → mirror n (mirror n i) ≡ i
mirror_twice n i h = omega arith

pub get_d_reverse : {A : Type 0} (l : List A) (d : A) (i : ℕ) → i < length l → get_or (reverse l) i d ≡ get_or l (mirror (length l) i) d
get_d_reverse [] d i h = absurd (omega arith)
get_d_reverse (x ∷ xs) d i h = ap (λ l. get_or l i d) (reverse-cons x xs) ∙ pick (dec_lt i (length xs)) (get_d_reverse xs d i)
  where
    pick : Dec (i < length xs) → (i < length xs → get_or (reverse xs) i d ≡ get_or xs (mirror (length xs) i) d)
        → get_or (reverse xs ++ (x ∷ [])) i d ≡ get_or (x ∷ xs) (mirror (suc (length xs)) i) d
    pick (yes l) f =
        let e : suc (length xs) - suc i ≡ suc (length xs - suc i) = omega arith in
        rw e (get_or-append (reverse xs) (x ∷ []) d i (omega (arith, length-reverse xs)) ∙ f l)
    pick (no l) f =
        let e : suc (length xs) - suc i ≡ 0 = omega arith in
        rw e (get_or_at (reverse xs) x [] d i (omega (arith, length-reverse xs)))

module _ {S : Type 0} (empty : S) (t : List S) where
  pub mirror_entry : (i : ℕ) → i < length t → get_or (reverse t) (mirror (length t) i) empty ≡ get_or t i empty
  mirror_entry i h =
      let e : length t - suc (length t - suc i) ≡ i = omega arith in
      get_d_reverse t empty (length t - suc i) (omega arith) ∙ ap (λ (k : ℕ). get_or t k empty) e

  module _ (misplaced : S → S → Bool) where
    pub window_mirrored : (i j : ℕ) → i < length t → j < length t
        → InWindow empty Lower misplaced t i j ↔ InWindow empty Higher misplaced (reverse t) (mirror (length t) i) (mirror (length t) j)
    window_mirrored i j a b = (
      λ w. record {
        inside = omega (arith, n);
        after = omega (arith, w.after);
        between = λ y h l r.
            rw (get_d_reverse t empty y (omega (arith, n)), mirror_entry i a)
            (w.between (mirror (length t) y) (omega (arith, n)) (omega (arith, n)) (omega (arith, n)));
      },
      λ w. record {
        inside = b;
        after = omega (arith, w.after);
        between = λ y h l r.
            rw (mirror_entry y h, mirror_entry i a) at (w.between (mirror (length t) y) (omega (arith, n)) (omega arith) (omega arith));
      },
    )
      where
        n : length (reverse t) ≡ length t
        n = length-reverse t

    pub past_mirrored : WindowOrPast empty Higher misplaced (reverse t) → WindowOrPast empty Lower misplaced t
    past_mirrored f i j a b l = turn (f (mirror (length t) i) (mirror (length t) j) (omega (arith, n)) (omega (arith, n)) (omega arith))
      where
        n : length (reverse t) ≡ length t
        n = length-reverse t

        turn : InWindow empty Higher misplaced (reverse t) (mirror (length t) i) (mirror (length t) j)
            ⊎ ((y : ℕ) × InWindow empty Higher misplaced (reverse t) (mirror (length t) i) y × (y < mirror (length t) j)
            × (misplaced (get_or (reverse t) y empty) (get_or (reverse t) (mirror (length t) i) empty) ≡ true))
            → InWindow empty Lower misplaced t i j
            ⊎ ((y : ℕ) × InWindow empty Lower misplaced t i y × (j < y) × (misplaced (get_or t y empty) (get_or t i empty) ≡ true))
        turn (inl w) = inl ((window_mirrored i j a b).1 w)
        turn (inr (y, w, r, m)) = inr (z, (window_mirrored i z a (omega (arith, n))).1 (rw back w), omega (arith, n), rw (mirror_entry i a, back') at m)
          where
            z : ℕ
            z = mirror (length t) y

            back : mirror (length t) z ≡ y
            back = omega (arith, n, w.inside)

            back' : get_or (reverse t) y empty ≡ get_or t z empty
            back' = get_d_reverse t empty y (omega (arith, n, w.inside))

    module _ (occupied : S → Bool) (top : ℕ) where
      pub costs_mirrored : (c : ℕ → ℕ) → Costs empty occupied Higher misplaced (reverse t) top c
          → Costs empty occupied Lower misplaced t top (λ i. c (mirror (length t) i))
      costs_mirrored c k = record {
        vacant = λ i b o. k.vacant (m i) (omega (arith, n)) (rw (mirror_entry i b) o);
        within = λ i j b o w. k.within (m i) (m j) (omega (arith, n)) (rw (mirror_entry i b) o) ((window_mirrored i j b w.inside).0 w);
        bounded = λ i b. k.bounded (m i) (omega (arith, n));
        next = λ i b o h. turn i b (k.next (m i) (omega (arith, n)) (rw (mirror_entry i b) o) h);
      }
        where
          n : length (reverse t) ≡ length t
          n = length-reverse t

          m : ℕ → ℕ
          m = mirror (length t)

          turn : (i : ℕ) → i < length t
              → (j : ℕ) × InWindow empty Higher misplaced (reverse t) (m i) j × (c (m i) ≡ suc (c j))
              × ((y : ℕ) → y < length (reverse t) → m i < y → y < j → c j < c y)
              → (j : ℕ) × InWindow empty Lower misplaced t i j × (c (m i) ≡ suc (c (m j))) × ((y : ℕ) → y < length t → y < i → j < y → c (m j) < c (m y))
          turn i b (j, w, e, f) = (
            m j,
            (window_mirrored i (m j) b (omega (arith, n))).1 (rw back w),
            rw back e,
            λ y a l r. rw back (f (m y) (omega (arith, n)) (omega arith) (omega (arith, n, w.inside))),
          )
            where
              back : m (m j) ≡ j
              back = omega (arith, n, w.inside)
