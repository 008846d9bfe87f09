-- Laws on searches made in place: a test that agrees with the entries at the slots searched gives the layout's own number.
-- A table of words is searched so, without its entries being copied out; two layouts with the same entries are one list (lib.Seq, ext-getD).
use Rattle.std.specs.Prelude.{◌≡◌, Bool, ◌&&◌, ◌||◌, List, eqb, length, get_or}
use Rattle.std.proofs.Math.Path.{ap, ap₂}
use Rattle.std.proofs.Math.Bool.{not}
use Prim.Native.Nat.{ℕ, suc, ◌-◌, ◌<◌, min}
use Rattle.std.proofs.Common.{arith}
use Rattle.search.specs.Search.{any, least, after_last}
use Rattle.search.specs.SearchLaws.{any_cong, least_cong, after_last_cong}
use Rattle.layout.specs.Held.{free}
use Rattle.layout.specs.Replies.{first_match}
use Rattle.layout.specs.Cost.{window_end}
use Rattle.layout.specs.Plan.{after_preceding, first_dependant}

module _ {S : Type 0} (empty : S) (misordered : S → S → Bool) (t : List S) where
  pub window_end_by : (i : ℕ) (p : ℕ → Bool) → ((y : ℕ) → i < y → y < length t → p y ≡ misordered (get_or t y empty) (get_or t i empty))
      → min (suc (least p (length t - suc i) (suc i))) (length t) ≡ window_end empty misordered t i
  unfolding window_end
  window_end_by i p f = ap (λ (m : ℕ). min (suc m) (length t)) (least_cong (length t - suc i) (suc i) (λ j l r. f j l (omega arith)))

  pub after_preceding_by : (new : S) (p : ℕ → Bool) → ((i : ℕ) → i < length t → p i ≡ misordered new (get_or t i empty))
      → after_last p (length t) ≡ after_preceding empty misordered t new
  unfolding after_preceding
  after_preceding_by new p f = after_last_cong (length t) f

  pub first_dependant_by : (new : S) (p : ℕ → Bool) → ((i : ℕ) → i < length t → p i ≡ misordered (get_or t i empty) new)
      → least p (length t) 0 ≡ first_dependant empty misordered t new
  unfolding first_dependant
  first_dependant_by new p f = least_cong (length t) 0 (λ j l r. f j (omega arith))

module _ {S : Type 0} (empty : S) (occupied : S → Bool) (t : List S) where
  pub first_match_by : (matches : S → Bool) (p : ℕ → Bool) → ((i : ℕ) → i < length t → p i ≡ occupied (get_or t i empty) && matches (get_or t i empty))
      → least p (length t) 0 ≡ first_match empty occupied matches t
  unfolding first_match
  first_match_by matches p f = least_cong (length t) 0 (λ j l r. f j (omega arith))

  pub free_by : (same : S → S → Bool) (j : ℕ) (o : Bool) (p : ℕ → Bool) → o ≡ occupied (get_or t j empty)
      → ((k : ℕ) → k < length t → p k ≡ same (get_or t k empty) (get_or t j empty))
      → not o || any (λ k. not (eqb k j) && p k) (length t) ≡ free empty occupied same t j
  unfolding free
  free_by same j o p e f =
      ap₂ (λ (x y : Bool). not x || y) e (any_cong (length t) (λ k l. ap (λ (b : Bool). not (eqb k j) && b) (f k l)))
