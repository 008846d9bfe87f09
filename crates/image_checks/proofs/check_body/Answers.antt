-- `image_checks::check_body` meets its contract.
-- The numbers read in the image tell whether the record that entry and body mean is sound.
-- the numbers read at a body's start, and the record that they mean, whose id has passed
use mathlib.Core.Path.{◌≡◌, sym, ap, ◌∙◌}
use mathlib.Core.Bool.{Bool, not, ◌&&◌}
use mathlib.Core.List.{List}
use Prim.Native.Nat.{ℕ, ◌+◌, ◌*◌}
use native.Mathlib.Omega.{arith}
use borrow.Author.Tests.{ne_eqb}
use borrow.Author.Rules.{rules}
use Rattle.ternary.specs.Pattern.{within}
use Rattle.records.specs.Record.{word, mask, rank_fits, sound, sound_parts}
use Rattle.records.specs.declared.Cause.TheVariants.{Image}
use Rattle.records.specs.Verdict.{Fail}
use Rattle.image.specs.Bytes.{Bytes, number_at}
use Rattle.image.specs.Format.{body_place, id_at, body_word, record_at}
use Rattle.image.proofs.SaveLaws.{body_within, image_small}
use Rattle.image.proofs.Meaning.{body_sound}
use Rattle.image.specs.Checks.{check_body}
use Rattle.image.proofs.ChecksLaws.{field_last, field_last_wrong}
use Rattle.image_checks.proofs.check_body.Goals as goal

read : (w : ℕ) (b : List ℕ) (e k place : ℕ) → Bytes b → place ≡ body_place w e k → (id_at b k ≡ 0 → ⊥)
    → sound w (word (record_at w b e k)) ≡ (rank_fits w (number_at b (place + 16 * w) 4) (mask w (body_word b place)) && within w (body_word b place) (mask w (body_word b place)))
unfolding sound_parts
read w b e k place h p named =
    let at : body_place w e k + 2 * w * 8 ≡ body_place w e k + 16 * w = omega arith in
    let x = body_word b (body_place w e k) in
    body_sound w b e k h
    ∙ (ap (λ (zeros : Bool). not zeros && rank_fits w (number_at b (body_place w e k + 2 * w * 8) 4) (mask w x) && within w x (mask w x)) (ne_eqb _ 0 named)
    ∙ (ap (λ (n : ℕ). rank_fits w (number_at b n 4) (mask w x) && within w x (mask w x)) at
    ∙ ap (λ (q : ℕ). rank_fits w (number_at b (q + 16 * w) 4) (mask w (body_word b q)) && within w (body_word b q) (mask w (body_word b q))) (sym p)))

pub body_sound-requires : goal.body_sound-requires
body_sound-requires c =
    let a = c.args in
    let size = body_within a.width a.rules a.entry c.requires.2 in
    (c.requires.0, omega (arith, size, c.body_place-at.ensures))

pub returns-then-body_sound : goal.returns-then-body_sound
unfolding check_body
returns-then-body_sound c =
    let a = c.args in
    field_last _
    (read a.width a.image.now a.rules a.entry _ (λ i. search rules) c.body_place-at.ensures c.requires.4
    ∙ (sym c.body_sound.ensures ∙ c.if-body_sound.true))

pub overflow_cast-result : goal.overflow_cast-result
overflow_cast-result c =
    let a = c.args in
    omega (arith, c.body_place-at.ensures, body_within a.width a.rules a.entry c.requires.2, image_small a.width a.rules c.requires.0.1)

pub returns : goal.returns
unfolding check_body
returns c =
    let a = c.args in
    ap (Fail Image) c.body_place-at.ensures
    ∙ field_last_wrong _
    (read a.width a.image.now a.rules a.entry _ (λ i. search rules) c.body_place-at.ensures c.requires.4
    ∙ (sym c.body_sound.ensures ∙ c.if-body_sound.false))
