-- `loads::load_through` meets its contract.
-- The working table is the table meant; it is written where checks 3 and 4 pass.
use mathlib.Core.Path.{refl, ap, ◌∙◌}
use mathlib.Core.List.{List}
use Prim.Native.Nat.{ℕ, ◌/◌}
use native.Mathlib.Omega.{arith}
use lib.ListN.{length, length-replicate}
use Rattle.records.specs.Record.{record_words}
use Rattle.records.specs.Order.{slots}
use Rattle.records.specs.Checks.{or_else, check_records, check_twice, check_order}
use Rattle.records.specs.Verdict.{Pass, Fail}
use Rattle.records.proofs.Laws.{is_refusal}
use Rattle.records.proofs.EntriesLaws.{shaped_slots}
use Rattle.image.specs.Answers.{load_told}
use Rattle.image.specs.Format.{image_bytes}
use Rattle.image.specs.Checks.{meant}
use Rattle.image.proofs.LoadLaws.{fields_shape, fields_sound, meant_built, load_unsound, load_written}
use Rattle.image.proofs.ResavingLaws.{meant_records}
use Rattle.loads.proofs.load_through.Goals as goal

pub number_at-rules-requires : goal.number_at-rules-requires
number_at-rules-requires c =
    let a = c.args in
    let s = fields_sound a.mode.width a.image.now a.table.now c.requires.table_value.0 in
    (omega arith, omega (arith, s.long))

pub fill-requires : goal.fill-requires
fill-requires c =
    let a = c.args in
    let w = a.mode.width in
    let asked = c.requires.table_value in
    let s = fields_sound w a.image.now a.table.now asked.0 in
    let shaped = shaped_slots w a.table.now (fields_shape w a.image.now a.table.now asked.0) in
    let zeros = ap length asked.1 ∙ length-replicate (length a.table.now) 0 in record { width = (c.requires.width, omega (arith, s.few, shaped.1), omega (arith, s.long, ap (image_bytes w) c.number_at-rules.ensures)); by_index = λ k l. omega (arith, s.below k (omega arith), ap (λ (n : ℕ). n / record_words w) zeros) }

pub check_meant-requires : goal.check_meant-requires
check_meant-requires c =
    let a = c.args in
    let w = a.mode.width in
    let asked = c.requires.table_value in
    let t = a.table.now in
    let s = fields_sound w a.image.now t asked.0 in
    let built = meant_built w a.image.now (length t) c.number_at-rules.ensures asked.1 c.fill.ensures in
    let shaped = shaped_slots w t (fields_shape w a.image.now t asked.0) in
    let same = ap length asked.1 ∙ length-replicate (length t) 0 in record { width = (c.requires.width, omega (arith, ap (λ (n : ℕ). n / record_words w) c.fill.auto.table, ap (λ (n : ℕ). n / record_words w) same, shaped.1)); table_value = ap (check_records w) (built ∙ ap (meant w a.image.now) shaped.2) ∙ meant_records w a.image.now (slots w t) s }

pub returns-in_err-check_meant : goal.returns-in_err-check_meant
returns-in_err-check_meant c =
    let a = c.args in
    let w = a.mode.width in
    let u = a.mode.uncounted in
    let asked = c.requires.table_value in
    let built = meant_built w a.image.now (length a.table.now) c.number_at-rules.ensures asked.1 c.fill.ensures in
    let both = load_unsound w u a.image.now a.table.now {x = Fail _ _} asked.0 (c.in_err-check_meant.ensures ∙ ap (λ (m : List ℕ). or_else (check_twice w m) (check_order w u m)) built) refl in
    record { result_value = ap load_told (is_refusal _ c.from_residual.ensures.1) ∙ both.0; table_after = both.1 }

pub copy_words-requires : goal.copy_words-requires
copy_words-requires c =
    omega (arith, c.fill.auto.table, ap length c.requires.table_value.1 ∙ length-replicate (length c.args.table.now) 0)

pub returns : goal.returns
returns c =
    let a = c.args in
    let w = a.mode.width in
    let u = a.mode.uncounted in
    let asked = c.requires.table_value in
    let built = meant_built w a.image.now (length a.table.now) c.number_at-rules.ensures asked.1 c.fill.ensures in
    let p = load_written w u a.image.now a.table.now {x = Pass} asked.0 (c.in_ok-check_meant.ensures ∙ ap (λ (m : List ℕ). or_else (check_twice w m) (check_order w u m)) built) refl in
    record { result_value = p.0; table_after = c.copy_words.ensures ∙ (built ∙ p.1) }
