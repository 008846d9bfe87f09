-- Laws on the rows of a table: checks 1 to 4, each with its condition in plain terms.
use Rattle.std.specs.Prelude.{◌≡◌, refl, Bool, true, false, cond, ◌↔◌, List, [], ◌∷◌, ℕ, ◌<◌, ltb}
use Rattle.std.proofs.Common.{sym, ap, ◌∙◌, arith}
use Rattle.std.proofs.Math.Bool.{not, true≢false}
use borrow.Author.Tests.{not-true}
use Rattle.search.specs.Search.{any, least}
use Rattle.search.specs.SearchLaws.{any_yes, any_some, and_law}
use Rattle.records.specs.Record.{slot_words, occupied, sound}
use Rattle.records.specs.Sound.{SoundRecord}
use Rattle.records.specs.Order.{slots, same_id, misordered}
use Rattle.records.specs.Checks.{lowest, check_shape, shaped, unsound_at, check_records, check_twice, twice_at, check_order, disorder_at, slot_checks, table_checks}
use Rattle.records.proofs.Laws.{shape_law, pass_law, lowest_pass, lowest_fail, sound_record_law, same_id_law, misordered_law}
use Rattle.records.proofs.EntriesLaws.{refuted}
use Rattle.records.specs.declared.Cause.{Cause}
use Rattle.records.specs.declared.Cause.TheVariants.{Shape, Record, Twice, Order}
use Rattle.records.specs.Verdict.{Pass, Fail}
use Rattle.refusals.specs.Rows.{row_at, slot_row}
use Rattle.refusals.proofs.RowsLaws.{Agrees, pass_not_fail, one_row, rows_then, lowest_once, number_once}
use Rattle.refusals.specs.Calls.{OneId, NotHigher, shape_row, record_row, twice_row, order_row, slot_rows, table_rows}

-- a test that picks between passing and one refusal: its row's condition holds exactly where the test fails
pub test_row : (cause : Cause) (condition : Type 0) (spot : ℕ) (passing : Bool) → (passing ≡ true → condition → ⊥) → (passing ≡ false → condition)
    → Agrees (cond passing Pass (Fail cause spot)) (row_at cause condition spot ∷ [])
test_row cause condition spot true yes-case no-case =
    one_row (row_at cause condition spot) Pass (λ e. yes-case refl) (λ c s e. absurd (pass_not_fail e)) (number_once spot)
test_row cause condition spot false yes-case no-case =
    one_row (row_at cause condition spot) (Fail cause spot) (λ e. absurd (pass_not_fail (sym e)))
    (λ c s e. let same : cause ≡ c = cc in let at : spot ≡ s = cc in (same, no-case refl, sym at)) (number_once spot)

-- and one that picks the other way round
pub fault_row : (cause : Cause) (condition : Type 0) (spot : ℕ) (failing : Bool) → ((failing ≡ true) ↔ condition)
    → Agrees (cond failing (Fail cause spot) Pass) (row_at cause condition spot ∷ [])
fault_row cause condition spot true law = test_row cause condition spot false (λ e. absurd (true≢false (sym e))) (λ e. law.0 refl)
fault_row cause condition spot false law = test_row cause condition spot true (λ e c. true≢false (sym (law.1 c))) (λ e. absurd (true≢false e))

-- it fails with its own cause alone
pub only_cause : (cause other : Cause) (at spot : ℕ) (failing : Bool) → cond failing (Fail cause at) Pass ≡ Fail other spot → cause ≡ other
only_cause cause other at spot true e = let same : cause ≡ other = cc in same
only_cause cause other at spot false e = absurd (pass_not_fail e)

-- a search for the lowest slot: its row says what is wrong with a slot in plain terms
lowest_cause : (cause other : Cause) (p : ℕ → Bool) (n spot : ℕ) → lowest cause p n ≡ Fail other spot → cause ≡ other
unfolding lowest
lowest_cause cause other p n spot e = only_cause cause other (least p n 0) spot (ltb (least p n 0) n) e

pub lowest_row : (cause : Cause) (n : ℕ) (p : ℕ → Bool) (Wrong : ℕ → Type 0) → ((i : ℕ) → i < n → (p i ≡ true) ↔ Wrong i)
    → Agrees (lowest cause p n) (slot_row cause n Wrong ∷ [])
lowest_row cause n p Wrong law =
    one_row (slot_row cause n Wrong) (lowest cause p n)
    (λ e found. true≢false (sym ((law found.0 found.1).1 found.2) ∙ (lowest_pass cause p n).0 e found.0 found.1))
    (λ c spot e.
    let same = lowest_cause cause c p n spot e in
    let f = (lowest_fail cause p n spot).0 (e ∙ ap (λ (x : Cause). Fail x spot) (sym same)) in
    let wrong = (law spot f.0).0 f.1 in
    (same, (spot, f.0, wrong), (f.0, wrong, λ i h bad. true≢false (sym ((law i (omega (arith, f.0))).1 bad) ∙ f.2 i h))))
    (lowest_once n Wrong)

module _ (w : ℕ) (t : List ℕ) where
  pub shape_row_lem : Agrees (check_shape w t) (shape_row w t ∷ [])
  unfolding check_shape
  shape_row_lem =
      test_row Shape _ 0 (shaped w t) (λ e bad. bad ((shape_law w t).0 ((pass_law Shape 0 (shaped w t)).1 e)))
      (λ e good. true≢false (sym ((pass_law Shape 0 (shaped w t)).0 ((shape_law w t).1 good)) ∙ e))

  -- a record that is neither empty nor a sound rule
  unsound_law : (i : ℕ) → (unsound_at w t i ≡ true) ↔ ((occupied w (slot_words w t i) ≡ true) × (SoundRecord w (slot_words w t i) → ⊥))
  unfolding unsound_at
  unsound_law i =
      let x = slot_words w t i in
      let law = sound_record_law w x in
      let both = and_law (not (sound w x)) (occupied w x) in (
        λ e. let p = both.0 e in (p.1, λ good. true≢false (sym (law.1 good) ∙ not-true (sound w x) p.0)),
        λ p. both.1 (ap not (refuted (λ e. p.1 (law.0 e))), p.0),
      )

  pub record_row_lem : Agrees (check_records w t) (record_row w t ∷ [])
  unfolding check_records
  record_row_lem = lowest_row Record (slots w t) (unsound_at w t) _ (λ i h. unsound_law i)

  -- a test of a slot against the earlier ones
  earlier_law : (p : ℕ → ℕ → Bool) (Wrong : ℕ → ℕ → Type 0) → ((i j : ℕ) → (p i j ≡ true) ↔ Wrong i j)
      → (j : ℕ) → (any (λ (i : ℕ). p i j) j ≡ true) ↔ ((i : ℕ) × (i < j) × Wrong i j)
  earlier_law p Wrong law j = (
    λ e. let f = any_yes (λ (i : ℕ). p i j) j e in (f.0, f.1, (law f.0 j).0 f.2),
    λ f. any_some (λ (i : ℕ). p i j) j f.0 f.1 ((law f.0 j).1 f.2),
  )

  pub twice_row_lem : Agrees (check_twice w t) (twice_row w t ∷ [])
  unfolding check_twice twice_at
  twice_row_lem =
      lowest_row Twice (slots w t) (twice_at w t) _
      (λ j h. earlier_law (λ (i k : ℕ). same_id w (slot_words w t i) (slot_words w t k)) (λ i k. OneId w (slot_words w t i) (slot_words w t k))
      (λ i k. same_id_law w (slot_words w t i) (slot_words w t k)) j)

  -- checks 1 and 2
  pub slot_rows_lem : Agrees (slot_checks w t) (slot_rows w t)
  unfolding slot_checks
  slot_rows_lem = rows_then _ _ (shape_row w t ∷ []) (record_row w t ∷ []) shape_row_lem (λ e. record_row_lem)

module _ (w : ℕ) (u : Bool) (t : List ℕ) where
  pub order_row_lem : Agrees (check_order w u t) (order_row w u t ∷ [])
  unfolding check_order disorder_at
  order_row_lem =
      lowest_row Order (slots w t) (disorder_at w u t) _
      (λ j h. earlier_law w t (λ (i k : ℕ). misordered w u (slot_words w t i) (slot_words w t k))
      (λ i k. NotHigher w u (slot_words w t i) (slot_words w t k))
      (λ i k. misordered_law w u (slot_words w t i) (slot_words w t k)) j)

  -- checks 1 to 4
  pub table_rows_lem : Agrees (table_checks w u t) (table_rows w u t)
  unfolding table_checks
  table_rows_lem =
      rows_then _ _ (slot_rows w t) (twice_row w t ∷ order_row w u t ∷ []) (slot_rows_lem w t)
      (λ e. rows_then _ _ (twice_row w t ∷ []) (order_row w u t ∷ []) (twice_row_lem w t) (λ f. order_row_lem))
