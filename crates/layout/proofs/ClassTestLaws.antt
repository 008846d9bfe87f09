-- End theorems on the test of the comparison class: it says what the class says.
use Rattle.std.specs.Prelude.{◌≡◌, true, ◌&&◌, ◌↔◌, ℕ, ◌<◌, ltb, length, get_or}
use Rattle.std.proofs.Math.Bool.{Bool}
use Rattle.std.proofs.lemmas.Bool.{false≢true}
use mathlib.Core.List.{List, [], ◌∷◌}
use borrow.Author.Tests.{ltb-true, lt-ltb}
use Rattle.search.specs.SearchLaws.{and_law}
use Rattle.layout.specs.Order.{InOrder, in_order}
use Rattle.layout.specs.Held.{Free, free, copied, filled}
use Rattle.layout.specs.Write.{Write, copy, put, clear}
use Rattle.layout.specs.Class.{Sequence, last, more}
use Rattle.layout.proofs.OrderLaws.{in_order_law}
use Rattle.layout.proofs.HeldLaws.{free_law}
use Rattle.layout.specs.ClassTest.{last_fits, copy_fits, sequence}

module _ {S : Type 0} (empty : S) (occupied : S → Bool) (same misordered : S → S → Bool) (toward : ℕ → ℕ → Bool) (new : S) where
  last_law : (t : List S) (to : ℕ) → (last_fits empty occupied same misordered toward new t to ≡ true)
      ↔ ((to < length t) × Free empty occupied same t to × InOrder empty misordered (filled empty t to new))
  unfolding last_fits
  last_law t to =
      let a = and_law (ltb to (length t)) (free empty occupied same t to && in_order empty misordered (filled empty t to new)) in
      let b = and_law (free empty occupied same t to) (in_order empty misordered (filled empty t to new)) in
      let f = free_law empty occupied same t to in
      let o = in_order_law empty misordered (filled empty t to new) in (
        λ e. let p = a.0 e in let q = b.0 p.1 in (ltb-true to (length t) p.0, f.0 q.0, o.0 q.1),
        λ h. a.1 (lt-ltb to (length t) h.0, b.1 (f.1 h.1, o.1 h.2)),
      )

  copy_law : (t : List S) (from to : ℕ) → (copy_fits empty occupied same misordered toward new t from to ≡ true)
      ↔ ((from < length t) × (to < length t) × (toward from to ≡ true) × (occupied (get_or t from empty) ≡ true)
      × Free empty occupied same t to × InOrder empty misordered (copied empty t from to))
  unfolding copy_fits
  copy_law t from to =
      let v : Bool = in_order empty misordered (copied empty t from to) in
      let a = and_law (ltb from (length t)) (ltb to (length t) && (toward from to && (occupied (get_or t from empty) && (free empty occupied same t to && v)))) in
      let b = and_law (ltb to (length t)) (toward from to && (occupied (get_or t from empty) && (free empty occupied same t to && v))) in
      let c = and_law (toward from to) (occupied (get_or t from empty) && (free empty occupied same t to && v)) in
      let d = and_law (occupied (get_or t from empty)) (free empty occupied same t to && v) in
      let g = and_law (free empty occupied same t to) v in
      let f = free_law empty occupied same t to in
      let o = in_order_law empty misordered (copied empty t from to) in (
        λ e.
            let p = a.0 e in
            let q = b.0 p.1 in
            let r = c.0 q.1 in
            let s = d.0 r.1 in
            let u = g.0 s.1 in
            (ltb-true from (length t) p.0, ltb-true to (length t) q.0, r.0, s.0, f.0 u.0, o.0 u.1),
        λ h. a.1 (lt-ltb from (length t) h.0, b.1 (lt-ltb to (length t) h.1, c.1 (h.2, d.1 (h.3, g.1 (f.1 h.4, o.1 h.5))))),
      )

  -- the test says what the class says
  pub tested_sequence : (t : List S) (ws : List Write) → sequence empty occupied same misordered toward new t ws ≡ true
      → Sequence empty occupied same misordered (λ i j. toward i j ≡ true) new t ws
  unfolding sequence
  tested_sequence t [] e = absurd (false≢true e)
  tested_sequence t (copy from to ∷ rest) e =
      let both = (and_law (copy_fits empty occupied same misordered toward new t from to) (sequence empty occupied same misordered toward new (copied empty t from to) rest)).0 e in
      let a = (copy_law t from to).0 both.0 in
      let r = tested_sequence (copied empty t from to) rest both.1 in
      more from to a.0 a.1 a.2 a.3 a.4 a.5 r
  tested_sequence t (put to ∷ []) e = let a = (last_law t to).0 e in last to a.0 a.1 a.2
  tested_sequence t (put to ∷ w ∷ rest) e = absurd (false≢true e)
  tested_sequence t (clear to ∷ rest) e = absurd (false≢true e)

  pub sequence_tested : {t : List S} {ws : List Write} → Sequence empty occupied same misordered (λ i j. toward i j ≡ true) new t ws → sequence empty occupied same misordered toward new t ws ≡ true
  unfolding sequence
  sequence_tested {t} (Sequence.last to b f o) = (last_law t to).1 (b, f, o)
  sequence_tested {t} (Sequence.more {rest = rest} from to a b l e f o r) =
      (and_law (copy_fits empty occupied same misordered toward new t from to) (sequence empty occupied same misordered toward new (copied empty t from to) rest)).1 ((copy_law t from to).1 (a, b, l, e, f, o), sequence_tested r)
