-- Laws on writes: the test of what fits says what it means; the writes of a chain, counted and joined.
use Rattle.std.specs.Prelude.{◌≡◌, refl, Bool, true, ◌&&◌, ◌↔◌, List, [], ◌∷◌, ◌++◌, ℕ, eqb, ltb, length, get_or}
use Rattle.std.proofs.Common.{ap, arith, length-append}
use Rattle.std.proofs.Math.Bool.{not}
use borrow.Author.Tests.{not-true, eqb-false, ne_eqb, ltb-true, lt-ltb}
use Rattle.search.specs.SearchLaws.{and_law}
use Rattle.layout.specs.Held.{free}
use Rattle.layout.proofs.HeldLaws.{free_law}
use Rattle.layout.specs.Write.{carried, applied, moves, Write, Fits, copy, clear, put}

module _ {S : Type 0} (empty : S) (occupied : S → Bool) (same : S → S → Bool) where
  -- when a write fits, as a test
  unfoldable pub fits : List S → Write → Bool
  fits t (copy from to) = ltb from (length t) && (ltb to (length t) && (not (eqb from to) && (occupied (get_or t from empty) && free empty occupied same t to)))
  fits t (put to) = ltb to (length t) && free empty occupied same t to
  fits t (clear to) = ltb to (length t) && occupied (get_or t to empty)

  pub fits_law : (t : List S) (w : Write) → (fits t w ≡ true) ↔ Fits empty occupied same t w
  unfolding fits
  fits_law t (copy from to) =
      let a = and_law (ltb from (length t)) (ltb to (length t) && (not (eqb from to) && (occupied (get_or t from empty) && free empty occupied same t to))) in
      let b = and_law (ltb to (length t)) (not (eqb from to) && (occupied (get_or t from empty) && free empty occupied same t to)) in
      let c = and_law (not (eqb from to)) (occupied (get_or t from empty) && free empty occupied same t to) in
      let d = and_law (occupied (get_or t from empty)) (free empty occupied same t to) in
      let f = free_law empty occupied same t to in (
        λ e.
            let p = a.0 e in
            let q = b.0 p.1 in
            let r = c.0 q.1 in
            let s = d.0 r.1 in
            (ltb-true from (length t) p.0, ltb-true to (length t) q.0, eqb-false from to (not-true (eqb from to) r.0), s.0, f.0 s.1),
        λ h. a.1 (lt-ltb from (length t) h.0, b.1 (lt-ltb to (length t) h.1, c.1 (ap not (ne_eqb from to h.2), d.1 (h.3, f.1 h.4)))),
      )
  fits_law t (put to) =
      let a = and_law (ltb to (length t)) (free empty occupied same t to) in
      let f = free_law empty occupied same t to in
      (λ e. let p = a.0 e in (ltb-true to (length t) p.0, f.0 p.1), λ h. a.1 (lt-ltb to (length t) h.0, f.1 h.1))
  fits_law t (clear to) =
      let a = and_law (ltb to (length t)) (occupied (get_or t to empty)) in
      (λ e. let p = a.0 e in (ltb-true to (length t) p.0, p.1), λ h. a.1 (lt-ltb to (length t) h.0, h.1))

pub moves_length : (s : ℕ) (rest : List ℕ) → length (moves s rest) ≡ length rest
unfolding moves
moves_length s [] = refl
moves_length s (j ∷ rest) = omega (arith, length-append (moves j rest) (copy s j ∷ []), moves_length j rest)

pub carried_append : {S : Type 0} (empty new : S) (t : List S) (ws vs : List Write)
    → carried empty new t (ws ++ vs) ≡ carried empty new (carried empty new t ws) vs
carried_append empty new t [] vs = refl
carried_append empty new t (w ∷ ws) vs = carried_append empty new (applied empty new t w) ws vs
