-- `image_checks::check_header` meets its contract.
-- Each return is a field that is wrong, or both right.
use mathlib.Core.Path.{sym, ap, ap₂, ◌∙◌}
use mathlib.Core.Bool.{Bool, ◌&&◌}
use native.Mathlib.Omega.{arith}
use lib.Dec.{eqb, leb}
use lib.ListN.{length}
use borrow.Author.Tests.{eq-eqb, ne_eqb, le-leb, lt-leb}
use borrow.Author.Rules.{rules}
use Rattle.search.specs.SearchLaws.{and_both}
use Rattle.image.specs.Bytes.{number_at}
use Rattle.image.specs.Checks.{field, check_header}
use Rattle.image.specs.Format.{rules_in, image_bytes}
use Rattle.image.proofs.BytesLaws.{number_small}
use Rattle.image.proofs.ChecksLaws.{field_wrong, field_right, field_last, field_last_wrong}
use Rattle.image_checks.proofs.check_header.Goals as goal

pub returns-then-bytes-lt4 : goal.returns-then-bytes-lt4
unfolding check_header
returns-then-bytes-lt4 c =
    let a = c.args in
    let b = a.image.now in
    field_wrong 0 (field (leb (rules_in b) a.slots && eqb (length b) (image_bytes a.width (rules_in b))) 2)
    (ap (λ (q : Bool). q && eqb (number_at b 0 2) a.slots) (lt-leb 4 _ c.if-bytes-lt4.true))

pub returns-then-number_at-slots : goal.returns-then-number_at-slots
unfolding check_header
returns-then-number_at-slots c = field_wrong 0 _ (ap₂ ◌&&◌ (le-leb 4 _ c.if-bytes-lt4.false) (ne_eqb _ _ (λ e. c.if-number_at-slots.true (c.number_at.ensures ∙ e))))

pub image_bytes-requires : goal.image_bytes-requires
image_bytes-requires c =
    (c.requires, omega (arith, c.number_at-rules.ensures, number_small 2 c.args.image.now 2 (λ i. search rules)))

pub returns-then-rules-slots : goal.returns-then-rules-slots
unfolding check_header
returns-then-rules-slots c =
    field_right 0 (and_both _ _ (le-leb 4 _ c.if-bytes-lt4.false) (eq-eqb _ _ (sym c.number_at.ensures ∙ c.if-number_at-slots.false)))
    (field_last 2 (rw (c.image_bytes.ensures, c.number_at-rules.ensures) at c.if-rules-slots.true))

pub returns : goal.returns
unfolding check_header
returns c =
    field_right 0 (and_both _ _ (le-leb 4 _ c.if-bytes-lt4.false) (eq-eqb _ _ (sym c.number_at.ensures ∙ c.if-number_at-slots.false)))
    (field_last_wrong 2 (rw (c.image_bytes.ensures, c.number_at-rules.ensures) at c.if-rules-slots.false))
