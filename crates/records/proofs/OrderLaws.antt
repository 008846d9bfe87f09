-- Laws on a pair that is not out of order: a higher rank stands before, or a slot is empty.
use Rattle.std.specs.Prelude.{◌≡◌, Bool, true, false, not, ◌&&◌, ℕ, eqb, leb}
use Rattle.std.proofs.Common.{sym, ap, ap₂, ◌∙◌, eq-eqb, ne_eqb}
use Rattle.std.proofs.Math.Bool.{and-true, and-false, not-not}
use Rattle.search.specs.SearchLaws.{and_middle}
use Rattle.ternary.specs.Pattern.{Words}
use Rattle.records.specs.Record.{ident, action, rank, empty, occupied}
use Rattle.records.specs.Order.{distinct, actions_compared, compared, overlapping, misordered, equal_rule, replaceable}

pub misordered_higher : (w : ℕ) (u : Bool) (a b : Words) → leb (rank w a) (rank w b) ≡ false → false ≡ misordered w u a b
unfolding misordered
misordered_higher w u a b l = and_middle (overlapping w a b) (compared w u a b) l

-- an empty slot's standing is not out of order
pub misordered_empty : (w : ℕ) (u : Bool) (a b : Words) → empty w b ≡ true → (misordered w u a b ≡ false) × (misordered w u b a ≡ false)
unfolding misordered distinct
misordered_empty w u a b e = (rw (e, and-false, and-false, and-false, and-false), rw (e, and-false, and-false, and-false))

-- Two rules of different ids, as the code finds them: both slots are occupied, and the ids differ.
pub distinct_empty : (w : ℕ) (a b : Words) → occupied w a && occupied w b ≡ false → distinct w a b ≡ false
unfolding distinct
distinct_empty w a b e = rw e (and-false (not (eqb (ident w a) (ident w b))))

pub distinct_same : (w : ℕ) (a b : Words) → ident w a ≡ ident w b → distinct w a b ≡ false
unfolding distinct
distinct_same w a b e = rw (eq-eqb (ident w a) (ident w b) e)

pub distinct_both : (w : ℕ) (a b : Words) → occupied w a && occupied w b ≡ true → (ident w a ≡ ident w b → ⊥) → distinct w a b ≡ true
unfolding distinct
distinct_both w a b e f = rw (e, ne_eqb (ident w a) (ident w b) f)

-- Two rules that are compared: of different ids, and then their actions tell.
pub compared_not : (w : ℕ) (u : Bool) (a b : Words) → distinct w a b ≡ false → false ≡ compared w u a b
compared_not w u a b e = sym (ap (λ (d : Bool). actions_compared w u a b && d) e ∙ and-false (actions_compared w u a b))

pub compared_asked : (w : ℕ) (u : Bool) (a b : Words) → distinct w a b ≡ true → actions_compared w u a b ≡ compared w u a b
compared_asked w u a b e = sym (ap (λ (d : Bool). actions_compared w u a b && d) e ∙ and-true (actions_compared w u a b))

-- A pair that is asked for its ranks first, then whether the patterns overlap, and then whether the rules are compared.
pub pair_ranked : (w : ℕ) (u : Bool) (a b : Words) {test : Bool} → test ≡ false → false ≡ (overlapping w a b && test) && compared w u a b
pair_ranked w u a b e = and_middle (overlapping w a b) (compared w u a b) e

pub pair_apart : (w : ℕ) (u : Bool) (a b : Words) (test : Bool) → overlapping w a b ≡ false → false ≡ (overlapping w a b && test) && compared w u a b
pair_apart w u a b test e = sym (ap (λ (o : Bool). (o && test) && compared w u a b) e)

pub pair_both : (w : ℕ) (u : Bool) (a b : Words) {test : Bool} → overlapping w a b ≡ true → test ≡ true
    → compared w u a b ≡ (overlapping w a b && test) && compared w u a b
pair_both w u a b e f = sym (ap₂ (λ (o t : Bool). (o && t) && compared w u a b) e f)

-- The test of equal rules, and where the table is uncounted that of their actions.
pub replaced_unequal : (w : ℕ) (u : Bool) (a b : Words) → equal_rule w a b ≡ false → false ≡ replaceable w u a b
unfolding replaceable
replaced_unequal w u a b e =
    let asked = not (u && not (eqb (action w a) (action w b))) in
    sym (ap (λ (b : Bool). asked && b) e ∙ and-false asked)

pub replaced_asked : (u alike equal : Bool) → u ≡ true → equal ≡ true → alike ≡ not (u && not alike) && equal
replaced_asked u alike equal e f =
    sym (ap₂ (λ (a b : Bool). not (a && not alike) && b) e f ∙ (and-true (not (not alike)) ∙ not-not alike))

pub replaced_counted : (w : ℕ) (u : Bool) (a b : Words) → u ≡ false → equal_rule w a b ≡ true → true ≡ replaceable w u a b
unfolding replaceable
replaced_counted w u a b e f = sym (ap₂ (λ (x y : Bool). not (x && not (eqb (action w a) (action w b))) && y) e f)
