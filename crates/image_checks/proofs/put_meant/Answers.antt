-- `image_checks::put_meant` meets its contract.
-- The pattern is put from the slot's first word on, and the two words behind it.
use mathlib.Core.Path.{◌≡◌, ap, ap₂, ◌∙◌}
use mathlib.Core.List.{[], ◌∷◌}
use Prim.Native.Nat.{ℕ, ◌+◌, ◌*◌}
use native.Mathlib.Omega.{arith}
use Rattle.records.proofs.Laws.{slot_within}
use Rattle.records.specs.Record.{record_words, listed}
use Rattle.image.specs.Bytes.{number_at, store}
use Rattle.image.specs.Format.{body_place, body_word, id_at}
use Rattle.image.proofs.SaveLaws.{body_within}
use Rattle.image.proofs.LoadLaws.{record_put}
use Rattle.image_checks.proofs.put_meant.Goals as goal

pub overflow_mul-first : goal.overflow_mul-first
overflow_mul-first c =
    let a = c.args in
    omega (arith, ap (λ (n : ℕ). a.slot * n) c.record_words.ensures, slot_within a.width a.table.now a.slot c.requires.4)

pub put_pattern-requires : goal.put_pattern-requires
put_pattern-requires c =
    let a = c.args in
    let asked = c.requires in
    (asked.0, omega (arith, c.body_place-body.ensures, body_within a.width a.rules a.entry asked.2), omega (arith, ap (λ (n : ℕ). a.slot * n) c.record_words.ensures, slot_within a.width a.table.now a.slot asked.4))

pub overflow_add-body : goal.overflow_add-body
overflow_add-body c =
    let a = c.args in
    let asked = c.requires in
    omega (arith, c.body_place-body.ensures, body_within a.width a.rules a.entry asked.2)

pub overflow_add-first : goal.overflow_add-first
overflow_add-first c =
    let a = c.args in
    let asked = c.requires in
    omega (arith, ap (λ (n : ℕ). a.slot * n) c.record_words.ensures, slot_within a.width a.table.now a.slot asked.4)

pub put_rest-requires : goal.put_rest-requires
put_rest-requires c =
    let a = c.args in
    let asked = c.requires in
    (omega (arith, c.entry_place.ensures), omega (arith, c.body_place-body.ensures, body_within a.width a.rules a.entry asked.2), omega (arith, c.put_pattern.auto, ap (λ (n : ℕ). a.slot * n) c.record_words.ensures, slot_within a.width a.table.now a.slot asked.4))

pub returns : goal.returns
returns c =
    let a = c.args in
    let w = a.width in
    let b = a.image.now in
    let body = c.body_place-body in
    let words = c.record_words in
    let pattern = c.put_pattern in
    let entry = c.entry_place in
    let low : body.result + 16 * w + 4 ≡ body_place w a.rules a.entry + (2 * w * 8 + 4) = omega (arith, body.ensures) in
    let rank : body.result + 16 * w ≡ body_place w a.rules a.entry + 2 * w * 8 = omega (arith, body.ensures) in
    record_put w b a.rules a.entry a.table.now a.slot c.requires.4
    (pattern.ensures ∙ ap₂ (λ (n at : ℕ). store a.table.now (a.slot * n) (listed (2 * w) (body_word b at))) words.ensures body.ensures)
    (c.put_rest.ensures
    ∙ (ap₂ (λ (n at : ℕ). store pattern.new.table (a.slot * n + 2 * w) ((number_at b at 4 * 4294967296 + number_at b (body.result + 16 * w + 4) 4) ∷ number_at b (body.result + 16 * w) 4 ∷ [])) words.ensures entry.ensures
    ∙ ap₂ (λ (x y : ℕ). store pattern.new.table (a.slot * record_words w + 2 * w) ((id_at b a.entry * 4294967296 + number_at b x 4) ∷ number_at b y 4 ∷ [])) low rank))
