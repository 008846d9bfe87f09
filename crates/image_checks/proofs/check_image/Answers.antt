-- `image_checks::check_image` meets its contract.
-- Each check is made where those before it pass.
use mathlib.Core.Path.{sym, ap, ◌∙◌}
use Prim.Native.Nat.{ℕ}
use native.Mathlib.Omega.{arith}
use native.Mathlib.Nat.{le_of_eq}
use Rattle.records.specs.Verdict.{checked}
use Rattle.records.proofs.Laws.{is_refusal, stops, goes_on}
use Rattle.image.specs.Checks.{check_contents, check_bodies, image_checks}
use Rattle.image.proofs.ChecksLaws.{header_law, entry_law, turn_pass}
use Rattle.image_checks.proofs.check_image.Goals as goal

pub returns-in_err-check_header : goal.returns-in_err-check_header
unfolding image_checks
returns-in_err-check_header c = ap checked (is_refusal _ c.from_residual.ensures.1) ∙ stops _ c.in_err-check_header.ensures

pub number_at-rules-requires : goal.number_at-rules-requires
number_at-rules-requires c =
    let a = c.args in
    let h = (header_law a.width a.image.now a.slots).0 (sym c.in_ok-check_header.ensures) in
    (omega arith, h.0)

pub check_contents-requires : goal.check_contents-requires
check_contents-requires c =
    let a = c.args in
    let h = (header_law a.width a.image.now a.slots).0 (sym c.in_ok-check_header.ensures) in
    (c.requires.0, omega (arith, h.2, c.number_at-rules.ensures), rw (sym c.number_at-rules.ensures) at (le_of_eq (sym h.3)))

pub returns-in_err-check_contents : goal.returns-in_err-check_contents
unfolding image_checks
returns-in_err-check_contents c =
    let a = c.args in
    goes_on c.in_ok-check_header.ensures
    (ap checked (is_refusal _ c.from_residual-in_err-check_contents.ensures.1)
    ∙ stops _ (c.in_err-check_contents.ensures ∙ ap (λ (e : ℕ). check_contents a.width a.image.now a.slots e) c.number_at-rules.ensures))

pub check_bodies-requires : goal.check_bodies-requires
unfolding check_contents
check_bodies-requires c =
    let a = c.args in
    let h = (header_law a.width a.image.now a.slots).0 (sym c.in_ok-check_header.ensures) in (
      c.requires.0,
      omega (arith, h.2, c.number_at-rules.ensures),
      rw (sym c.number_at-rules.ensures) at (le_of_eq (sym h.3)),
      λ k l. ((entry_law a.width a.image.now a.slots _ k).0 ((turn_pass _ _).0 (sym c.in_ok-check_contents.ensures) k l)).0,
    )

pub returns : goal.returns
unfolding image_checks
returns c =
    let a = c.args in
    goes_on c.in_ok-check_header.ensures
    (goes_on (c.in_ok-check_contents.ensures ∙ ap (λ (e : ℕ). check_contents a.width a.image.now a.slots e) c.number_at-rules.ensures)
    (c.check_bodies.ensures ∙ ap (λ (e : ℕ). check_bodies a.width a.image.now e) c.number_at-rules.ensures))
