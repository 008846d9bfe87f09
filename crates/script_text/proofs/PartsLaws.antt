-- End theorems on the parts of a text: no part holds the separator, and the parts joined by it are the text.
use Rattle.std.specs.Prelude.{◌≡◌, false, ◌&&◌, ◌⊎◌, eqb, get_or, drop}
use Rattle.std.proofs.Math.Path.{refl, ap}
use Rattle.std.proofs.Common.{sym, ap₂, ◌∙◌, add-one, drop-cons, take_all}
use Rattle.std.proofs.Math.Bool.{true, not, cond}
use Rattle.std.proofs.lemmas.Bool.{false≢true}
use Rattle.std.proofs.Math.Logic.◌⊎◌.{inl, inr}
use mathlib.Core.List.{List, [], ◌∷◌, ◌++◌, append-nil}
use Prim.Native.Nat.{ℕ, zero, suc, ◌+◌, ◌≤◌, ◌<◌}
use native.Mathlib.Omega.{arith}
use Rattle.std.proofs.Math.ListN.{length, take}
use borrow.Author.Tests.{eq-eqb, ne_eqb, eqb-true}
use Rattle.search.specs.SearchLaws.{decided, and_both, and_left, and_right}
use Rattle.script_text.specs.Parts.{parts, unparted, joined, extended, first_part}

-- Where the first part ends there is the text's end or a separator.
module _ (s : ℕ) where
  pub first_le : (x : List ℕ) → length (first_part s x) ≤ length x
  unfolding first_part
  first_le [] = omega arith
  first_le (b ∷ rest) = by (decided (eqb b s)) (first_le rest)
    where
      by : (eqb b s ≡ true) ⊎ (eqb b s ≡ false) → length (first_part s rest) ≤ length rest
          → length (cond (eqb b s) [] (b ∷ first_part s rest)) ≤ suc (length rest)
      by (inl t) h = rw t (omega arith)
      by (inr f) h = rw f (omega arith)

  pub first_take : (x : List ℕ) → first_part s x ≡ take (length (first_part s x)) x
  unfolding first_part
  first_take [] = refl
  first_take (b ∷ rest) = by (decided (eqb b s)) (first_take rest)
    where
      by : (eqb b s ≡ true) ⊎ (eqb b s ≡ false) → first_part s rest ≡ take (length (first_part s rest)) rest
          → cond (eqb b s) [] (b ∷ first_part s rest) ≡ take (length (cond (eqb b s) [] (b ∷ first_part s rest))) (b ∷ rest)
      by (inl t) h = rw t
      by (inr f) h = rw f (ap (λ (l : List ℕ). b ∷ l) h)

  pub first_unparted : (x : List ℕ) → unparted s (first_part s x) ≡ true
  unfolding first_part unparted
  first_unparted [] = refl
  first_unparted (b ∷ rest) = by (decided (eqb b s)) (first_unparted rest)
    where
      by : (eqb b s ≡ true) ⊎ (eqb b s ≡ false) → unparted s (first_part s rest) ≡ true
          → unparted s (cond (eqb b s) [] (b ∷ first_part s rest)) ≡ true
      by (inl t) h = rw t
      by (inr f) h = rw (f, f) h

  -- a text without separator is its own first part, and stands before the rest's first part
  pub first_append : (x y : List ℕ) → unparted s x ≡ true → first_part s (x ++ y) ≡ x ++ first_part s y
  unfolding first_part unparted
  first_append [] y h = refl
  first_append (b ∷ rest) y h = by (decided (eqb b s)) h (first_append rest y)
    where
      by : (eqb b s ≡ true) ⊎ (eqb b s ≡ false) → not (eqb b s) && unparted s rest ≡ true
          → (unparted s rest ≡ true → first_part s (rest ++ y) ≡ rest ++ first_part s y)
          → cond (eqb b s) [] (b ∷ first_part s (rest ++ y)) ≡ b ∷ (rest ++ first_part s y)
      by (inl t) h r = absurd (false≢true (rw t at h))
      by (inr f) h r = rw f (ap (λ (l : List ℕ). b ∷ l) (r (rw f at h)))

  -- a search for the end of a part, one byte at a time
  pub first_here : (x : List ℕ) (at : ℕ) → at < length x → get_or x at 0 ≡ s → first_part s (drop at x) ≡ []
  unfolding first_part
  first_here x at h e = rw (drop-cons x at 0 h, eq-eqb _ _ e)

  pub first_on : (x : List ℕ) (at : ℕ) → at < length x → (get_or x at 0 ≡ s → ⊥)
      → length (first_part s (drop at x)) ≡ suc (length (first_part s (drop (at + 1) x)))
  unfolding first_part
  first_on x at h e = rw (drop-cons x at 0 h, ne_eqb _ _ e, add-one)

  -- The parts, one after the other: a text without separator is one part; else the first part is followed by the parts of the rest.
  pub parts_last : (x : List ℕ) → length x ≤ length (first_part s x) → parts s x ≡ x ∷ []
  unfolding first_part parts
  parts_last [] h = refl
  parts_last (b ∷ rest) h = by (decided (eqb b s)) h (parts_last rest)
    where
      by : (eqb b s ≡ true) ⊎ (eqb b s ≡ false) → suc (length rest) ≤ length (cond (eqb b s) [] (b ∷ first_part s rest))
          → (length rest ≤ length (first_part s rest) → parts s rest ≡ rest ∷ [])
          → cond (eqb b s) ([] ∷ parts s rest) (extended b (parts s rest)) ≡ (b ∷ rest) ∷ []
      by (inl t) h r = absurd (let g = rw t at h in omega arith)
      by (inr f) h r = let g = rw f at h in rw (f, r (omega arith))

  pub parts_more : (x : List ℕ) → length (first_part s x) < length x
      → parts s x ≡ first_part s x ∷ parts s (drop (suc (length (first_part s x))) x)
  unfolding first_part parts
  parts_more [] h = absurd (omega arith)
  parts_more (b ∷ rest) h = by (decided (eqb b s)) h (parts_more rest)
    where
      by : (eqb b s ≡ true) ⊎ (eqb b s ≡ false) → length (cond (eqb b s) [] (b ∷ first_part s rest)) < suc (length rest)
          → (length (first_part s rest) < length rest → parts s rest ≡ first_part s rest ∷ parts s (drop (suc (length (first_part s rest))) rest))
          → cond (eqb b s) ([] ∷ parts s rest) (extended b (parts s rest))
          ≡ cond (eqb b s) [] (b ∷ first_part s rest) ∷ parts s (drop (suc (length (cond (eqb b s) [] (b ∷ first_part s rest)))) (b ∷ rest))
      by (inl t) h r = rw t
      by (inr f) h r = let g = rw f at h in rw (f, r (omega arith))

  extended_joined : (b : ℕ) (ps : List (List ℕ)) → joined s (extended b ps) ≡ b ∷ joined s ps
  unfolding joined
  extended_joined b [] = refl
  extended_joined b (p ∷ []) = refl
  extended_joined b (p ∷ q ∷ ps) = refl

  -- there is a part
  pub parts_some : (x : List ℕ) → (p : List ℕ) × (ps : List (List ℕ)) × (parts s x ≡ p ∷ ps)
  unfolding parts
  parts_some [] = ([], [], refl)
  parts_some (b ∷ rest) = by (decided (eqb b s)) (parts_some rest)
    where
      by : (eqb b s ≡ true) ⊎ (eqb b s ≡ false) → (p : List ℕ) × (ps : List (List ℕ)) × (parts s rest ≡ p ∷ ps)
          → (p : List ℕ) × (ps : List (List ℕ)) × (cond (eqb b s) ([] ∷ parts s rest) (extended b (parts s rest)) ≡ p ∷ ps)
      by (inl t) r = ([], parts s rest, rw t)
      by (inr f) r = (b ∷ r.0, r.1, rw (f, r.2))

  -- the parts joined by the separator are the text
  pub parts_joined : (x : List ℕ) → joined s (parts s x) ≡ x
  unfolding parts joined
  parts_joined [] = refl
  parts_joined (b ∷ rest) = by (decided (eqb b s)) (parts_some rest) (parts_joined rest)
    where
      by : (eqb b s ≡ true) ⊎ (eqb b s ≡ false) → (p : List ℕ) × (ps : List (List ℕ)) × (parts s rest ≡ p ∷ ps)
          → joined s (parts s rest) ≡ rest → joined s (cond (eqb b s) ([] ∷ parts s rest) (extended b (parts s rest))) ≡ b ∷ rest
      by (inl t) r e = rw (t, r.2) (rw r.2 at (ap₂ ◌∷◌ (sym (eqb-true b s t)) e))
      by (inr f) r e = rw f (extended_joined b (parts s rest) ∙ ap (λ (l : List ℕ). b ∷ l) e)

  -- and none of them holds it
  pub parts_unparted : (x : List ℕ) (k : ℕ) → unparted s (get_or (parts s x) k []) ≡ true
  unfolding parts unparted
  parts_unparted [] zero = refl
  parts_unparted [] (suc k) = refl
  parts_unparted (b ∷ rest) k = by (decided (eqb b s)) k (parts_some rest) (parts_unparted rest)
    where
      by : (eqb b s ≡ true) ⊎ (eqb b s ≡ false) → (k : ℕ) → (p : List ℕ) × (ps : List (List ℕ)) × (parts s rest ≡ p ∷ ps)
          → ((j : ℕ) → unparted s (get_or (parts s rest) j []) ≡ true)
          → unparted s (get_or (cond (eqb b s) ([] ∷ parts s rest) (extended b (parts s rest))) k []) ≡ true
      by (inl t) zero r h = rw t
      by (inl t) (suc k) r h = rw t (h k)
      by (inr f) zero r h = rw (f, r.2, f) (rw r.2 at (h 0))
      by (inr f) (suc k) r h = rw (f, r.2) (rw r.2 at (h (suc k)))

  -- bytes after a separator do not change the first part
  pub first_in : (x y : List ℕ) → length (first_part s x) < length x → first_part s (x ++ y) ≡ first_part s x
  unfolding first_part
  first_in [] y h = absurd (omega arith)
  first_in (b ∷ rest) y h = by (decided (eqb b s)) h (first_in rest y)
    where
      by : (eqb b s ≡ true) ⊎ (eqb b s ≡ false) → length (cond (eqb b s) [] (b ∷ first_part s rest)) < suc (length rest)
          → (length (first_part s rest) < length rest → first_part s (rest ++ y) ≡ first_part s rest)
          → cond (eqb b s) [] (b ∷ first_part s (rest ++ y)) ≡ cond (eqb b s) [] (b ∷ first_part s rest)
      by (inl t) h r = rw t
      by (inr f) h r = let g = rw f at h in rw (f, r (omega arith))

  -- a text that is its own first part has no separator, and the other way round
  pub first_all : (x : List ℕ) → length x ≤ length (first_part s x) → first_part s x ≡ x
  first_all x h = first_take x ∙ take_all (length (first_part s x)) x h

  pub unparted_first : (x : List ℕ) → unparted s x ≡ true → first_part s x ≡ x
  unfolding first_part
  unparted_first x h = rw append-nil at (first_append x [] h)

  pub unparted_append : (x y : List ℕ) → unparted s x ≡ true → unparted s y ≡ true → unparted s (x ++ y) ≡ true
  unfolding unparted
  unparted_append [] y h g = g
  unparted_append (b ∷ x) y h g = and_both (not (eqb b s)) _ (and_left _ _ h) (unparted_append x y (and_right (not (eqb b s)) _ h) g)
