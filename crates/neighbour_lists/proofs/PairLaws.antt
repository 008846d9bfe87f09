-- Laws on the tests of a pair: how they hang together, and what the answers on overlap and rank make of them.
use Rattle.std.specs.Prelude.{◌≡◌, refl, Bool, true, false, ◌&&◌, List, ℕ, ◌<◌, ◌≤◌, ltb, leb}
use Rattle.std.proofs.Math.Path.{sym}
use Rattle.std.proofs.Common.{ap, ◌∙◌, le-ltb, lt-ltb, le-leb}
use Rattle.std.proofs.Math.Bool.{and-false}
use Rattle.std.proofs.lemmas.Bool.{false≢true, lt-leb, not-false}
use Rattle.std.proofs.Math.Logic.◌⊎◌.{inl}
use Rattle.search.specs.SearchLaws.{and_middle}
use Rattle.ternary.specs.Pattern.{Words}
use Rattle.records.specs.Record.{slot_words, rank, empty}
use Rattle.records.specs.Order.{overlapping, distinct, compared, precedes, misordered}
use Rattle.records.proofs.OrderLaws.{misordered_higher, misordered_empty}
use Rattle.neighbour_lists.specs.Lists.{precedes_slot, misordered_slots, rank_at, occupied_at}
use Rattle.neighbour_lists.specs.Row.{Pairing, Quiet}

-- an empty slot precedes none, and none precedes it
pub precedes_empty : (w : ℕ) (u : Bool) (a b : Words) → empty w b ≡ true → (precedes w u a b ≡ false) × (precedes w u b a ≡ false)
unfolding precedes distinct
precedes_empty w u a b e = (rw (e, and-false, and-false, and-false, and-false), rw (e, and-false, and-false, and-false))

pub pairing_at : (w : ℕ) (u : Bool) (t : List ℕ) → Pairing (precedes_slot w u t) (misordered_slots w u t) (rank_at w t) (occupied_at w t)
pairing_at w u t = record {
  falling = λ i j h. sym (misordered_higher w u (slot_words w t i) (slot_words w t j) (lt-leb (rank_at w t i) (rank_at w t j) h));
  empty = λ i j e. (
    (precedes_empty w u (slot_words w t j) (slot_words w t i) (not-false _ e)).1,
    (misordered_empty w u (slot_words w t j) (slot_words w t i) (not-false _ e)).1,
  );
}

-- two tests that do not both hold, and two that do, with a third between them
and_neither : (a c b : Bool) → a && c ≡ false → a && b && c ≡ false
and_neither true c true e = e
and_neither true c false e = refl
and_neither false c b e = refl

and_between : (a c b : Bool) → a && c ≡ true → b ≡ true → a && b && c ≡ true
and_between true c true e f = e
and_between true c false e f = absurd (false≢true f)
and_between false c b e f = e

-- the tests of a pair by the answer r whether its rules overlap, and then by their ranks
module _ (w : ℕ) (u : Bool) (a b : Words) {r : Bool} (told : r ≡ overlapping w a b && compared w u a b) where
  pub pair_apart : r ≡ false → (misordered w u a b ≡ false) × (precedes w u a b ≡ false)
  unfolding misordered precedes
  pair_apart e = (
    and_neither (overlapping w a b) (compared w u a b) (leb (rank w a) (rank w b)) (sym told ∙ e),
    and_neither (overlapping w a b) (compared w u a b) (ltb (rank w b) (rank w a)) (sym told ∙ e),
  )

  pub pair_rising : r ≡ true → rank w a ≤ rank w b → (misordered w u a b ≡ true) × (precedes w u a b ≡ false)
  unfolding misordered precedes
  pair_rising e h = (
    and_between (overlapping w a b) (compared w u a b) (leb (rank w a) (rank w b)) (sym told ∙ e) (le-leb (rank w a) (rank w b) h),
    sym (and_middle (overlapping w a b) (compared w u a b) (le-ltb (rank w b) (rank w a) h)),
  )

  pub pair_falling : r ≡ true → rank w b < rank w a → (misordered w u a b ≡ false) × (precedes w u a b ≡ true)
  unfolding misordered precedes
  pair_falling e h = (
    sym (and_middle (overlapping w a b) (compared w u a b) (lt-leb (rank w a) (rank w b) h)),
    and_between (overlapping w a b) (compared w u a b) (ltb (rank w b) (rank w a)) (sym told ∙ e) (lt-ltb (rank w b) (rank w a) h),
  )

-- patterns that do not overlap
pub pattern_apart : (w : ℕ) (u : Bool) (a b : Words) → overlapping w a b ≡ false → (misordered w u a b ≡ false) × (precedes w u a b ≡ false)
pattern_apart w u a b e = pair_apart w u a b {r = false} (ap (λ (o : Bool). o && compared w u a b) (sym e)) refl

pub apart_quiet : (w : ℕ) (u : Bool) (t near : List ℕ) (i j : ℕ) → overlapping w (slot_words w t i) (slot_words w t j) ≡ false
    → Quiet (precedes_slot w u t) (misordered_slots w u t) near j i
apart_quiet w u t near i j e = let p = pattern_apart w u (slot_words w t i) (slot_words w t j) e in (p.0, inl p.1)
