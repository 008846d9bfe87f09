-- `image_checks::body_ranked` meets its contract.
-- The rank by its halves: 0 above is a priority, 1 above and 0 below is 65,536.
-- the rank's lower half has 16 bits, so that the upper one tells whether it is a priority
use mathlib.Core.Path.{◌≡◌, sym, ◌∙◌}
use mathlib.Core.Bool.{true≢false}
use mathlib.Core.List.{List}
use Prim.Native.Nat.{ℕ, ◌+◌, ◌*◌, ◌≤◌, ◌<◌}
use native.Mathlib.Omega.{arith}
use borrow.Author.Rules.{rules}
use borrow.Author.Tests.{eqb-true, eq-eqb, ne_eqb}
use Rattle.records.proofs.Laws.{rank_low, rank_exact, rank_past}
use Rattle.image.specs.Bytes.{Bytes, number_at}
use Rattle.image.proofs.BytesLaws.{number_quarters, number_small}
use Rattle.image_checks.proofs.body_ranked.Goals.{then-upper-eq1, else-upper-eq1}
use Rattle.image_checks.proofs.body_ranked.Goals as goal

upper-none : (b : List ℕ) (at : ℕ) → Bytes b → number_at b at 2 ≡ 0 → number_at b at 4 ≤ 65535
upper-none b at bytes e = omega (arith, number_quarters b at, number_small 2 b (at + 2) bytes, e)

upper-some : (b : List ℕ) (at : ℕ) → (number_at b at 2 ≡ 0 → ⊥) → 65535 < number_at b at 4
upper-some b at f = omega (arith, number_quarters b at, f)

is-exact : (b : List ℕ) (at : ℕ) → number_at b at 2 ≡ 1 → number_at b (at + 2) 2 ≡ 0 → number_at b at 4 ≡ 65536
is-exact b at e f = omega (arith, number_quarters b at, e, f)

exact-is : (b : List ℕ) (at : ℕ) → Bytes b → number_at b at 4 ≡ 65536 → (number_at b at 2 ≡ 1) × (number_at b (at + 2) 2 ≡ 0)
exact-is b at bytes e =
    let small = number_small 2 b (at + 2) bytes in
    let parts = number_quarters b at in
    (omega (arith, parts, small, e), omega (arith, parts, small, e))

pub returns-then-upper-eq0 : goal.returns-then-upper-eq0
returns-then-upper-eq0 c =
    eq-eqb _ _ c.if-upper-eq0.true
    ∙ sym (rank_low _ _ _ (upper-none c.args.image.now _ (λ i. search rules) (sym c.number_at-upper.ensures ∙ c.if-upper-eq0.true)))

pub returns-then-number_at-eq0 : goal.returns-then-number_at-eq0
returns-then-number_at-eq0 c =
    elim c.if-upper-eq1.branch [
      | then-upper-eq1 w ↦
          c.body_full.ensures
          ∙ sym (rank_exact _ _ _ (is-exact c.args.image.now (c.args.at + 16 * c.args.width)
          (sym c.number_at-upper.ensures ∙ w.if-upper-eq1.true)
          (sym w.number_at.ensures ∙ eqb-true _ 0 (sym w.value-is ∙ c.if-number_at-eq0.true))))
      | else-upper-eq1 w ↦ absurd (true≢false (sym c.if-number_at-eq0.true ∙ w.value-is ∙ ne_eqb _ _ w.if-upper-eq1.false))
    ]

pub returns-else-number_at-eq0 : goal.returns-else-number_at-eq0
returns-else-number_at-eq0 c =
    c.if-number_at-eq0.false
    ∙ sym (rank_past _ _ _
    (upper-some c.args.image.now _ (λ z. c.if-upper-eq0.false (c.number_at-upper.ensures ∙ z)))
    (λ e. let is = exact-is c.args.image.now _ (λ i. search rules) e in
    elim c.if-upper-eq1.branch [
      | then-upper-eq1 w ↦ true≢false (sym (eq-eqb _ 0 (w.number_at.ensures ∙ is.1)) ∙ sym w.value-is ∙ c.if-number_at-eq0.false)
      | else-upper-eq1 w ↦ w.if-upper-eq1.false (c.number_at-upper.ensures ∙ is.0)
    ]))
