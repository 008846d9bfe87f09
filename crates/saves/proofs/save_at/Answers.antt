-- `saves::save_at` meets its contract.
-- The checks pass, the buffer has room, and the image is stored.
use mathlib.Core.Path.{◌≡◌, refl, sym, ap, ◌∙◌}
use mathlib.Core.Bool.{Bool}
use mathlib.Core.List.{List, [], ◌∷◌}
use Prim.Native.Nat.{ℕ, ◌≤◌}
use native.Mathlib.Omega.{arith}
use lib.ListN.{length}
use Rattle.records.specs.Checks.{success, refusal, table_checks}
use Rattle.records.proofs.Laws.{is_refusal, table_checks_law, slot_checks_law}
use Rattle.records.proofs.EntriesLaws.{shaped_slots}
use Rattle.records.specs.Verdict.{Pass, Fail}
use Rattle.records.specs.declared.Cause.TheVariants.{Short}
use Rattle.buffers.proofs.BuffersLaws.{buffer_refused, buffer_short, buffer_written}
use Rattle.image.specs.Answers.{save_told}
use Rattle.image.specs.Format.{image_bytes, rule_count, image_of}
use Rattle.image.proofs.SaveLaws.{image_length, image_small, save_answer_lem, rules_small}
use Rattle.saves.proofs.save_at.Goals as goal

few : {n : ℕ} (w : ℕ) (u : Bool) (t : List ℕ) → n ≡ rule_count w t → Pass ≡ table_checks w u t → n ≤ 1024
few w u t e f = omega (arith, rules_small w u t (sym f))

small : {bytes : ℕ} (w n : ℕ) → bytes ≡ image_bytes w n → n ≤ 1024 → w ≤ 5 → bytes ≤ 100356
small w n e h l = omega (arith, image_small w n l)

pub returns-in_err-check_table : goal.returns-in_err-check_table
returns-in_err-check_table c =
    let a = c.args in
    let w = a.mode.width in
    let u = a.mode.uncounted in
    let p = buffer_refused {x = Fail _ _} (image_of w a.table.now) a.image.now c.in_err-check_table.ensures refl in
    record { result_value = ap save_told (is_refusal _ c.from_residual.ensures.1) ∙ (p.0 ∙ save_answer_lem w u a.table.now (length a.image.now)); image_after = p.1 }

pub count_rules-rules-requires : goal.count_rules-rules-requires
count_rules-rules-requires c =
    let a = c.args in
    let checks = (table_checks_law a.mode.width a.mode.uncounted a.table.now).0 (sym c.in_ok-check_table.ensures) in
    (c.requires, ((slot_checks_law a.mode.width a.table.now).0 checks.0).1)

pub image_bytes-bytes-requires : goal.image_bytes-bytes-requires
image_bytes-bytes-requires c = (c.requires, omega (arith, few _ _ _ c.count_rules-rules.ensures c.in_ok-check_table.ensures))

pub overflow_cast-result : goal.overflow_cast-result
overflow_cast-result c =
    omega (arith, small _ _ c.image_bytes-bytes.ensures (few _ _ _ c.count_rules-rules.ensures c.in_ok-check_table.ensures) c.requires.1)

pub returns-then-image-bytes : goal.returns-then-image-bytes
returns-then-image-bytes c =
    let a = c.args in
    let w = a.mode.width in
    let u = a.mode.uncounted in
    let t = a.table.now in
    let size = c.image_bytes-bytes.ensures ∙ (ap (image_bytes w) c.count_rules-rules.ensures ∙ sym (image_length w t)) in
    let p = buffer_short {x = Pass} (image_of w t) a.image.now c.in_ok-check_table.ensures refl (omega (arith, size, c.if-image-bytes.true)) in
    record { result_value = ap (refusal Short) size ∙ (p.0 ∙ save_answer_lem w u t (length a.image.now)); image_after = p.1 }

pub put_image-requires : goal.put_image-requires
put_image-requires c =
    let a = c.args in
    let checks = (table_checks_law a.mode.width a.mode.uncounted a.table.now).0 (sym c.in_ok-check_table.ensures) in (
      c.requires,
      (shaped_slots a.mode.width a.table.now ((slot_checks_law a.mode.width a.table.now).0 checks.0).0).1,
      c.count_rules-rules.ensures,
      omega (arith, c.image_bytes-bytes.ensures),
      ((slot_checks_law a.mode.width a.table.now).0 checks.0).1,
    )

pub overflow_cast-result-2 : goal.overflow_cast-result-2
overflow_cast-result-2 c =
    omega (arith, small _ _ c.image_bytes-bytes.ensures (few _ _ _ c.count_rules-rules.ensures c.in_ok-check_table.ensures) c.requires.1)

pub returns : goal.returns
returns c =
    let a = c.args in
    let w = a.mode.width in
    let u = a.mode.uncounted in
    let t = a.table.now in
    let size = c.image_bytes-bytes.ensures ∙ (ap (image_bytes w) c.count_rules-rules.ensures ∙ sym (image_length w t)) in
    let p = buffer_written {x = Pass} (image_of w t) a.image.now c.in_ok-check_table.ensures refl (omega (arith, size, c.if-image-bytes.false)) in
    record { result_value = ap (λ (n : ℕ). success (n ∷ [])) size ∙ (p.0 ∙ save_answer_lem w u t (length a.image.now)); image_after = c.put_image.ensures ∙ p.1 }
