-- Laws on the rows of a load: an image's header, its entries and bodies in turn, and 3 and 4 over the table meant.
use Rattle.std.specs.Prelude.{◌≡◌, Bool, ◌&&◌, ◌⊎◌, List, [], ◌∷◌, ℕ, zero, suc, ◌+◌, ◌≤◌, ◌<◌, eqb, ltb, leb, length}
use Rattle.std.proofs.Math.Path.{refl}
use Rattle.std.proofs.Common.{sym, ◌∙◌, inl, inr, ⊎_elim, arith}
use Rattle.std.proofs.Math.Bool.{true, false, not, true≢false}
use Prim.{tt}
use Rattle.std.proofs.Math.Decide.{dec_lt, dec_le}
use borrow.Author.Tests.{eqb-true, eqb-false, leb-true, le-leb, ltb-true, lt-ltb, not-true}
use Rattle.records.specs.Record.{word, sound}
use Rattle.records.specs.Order.{slots}
use Rattle.records.proofs.Laws.{sound_record_law}
use Rattle.records.specs.declared.Cause.TheVariants.{Image}
use Rattle.records.specs.Verdict.{Check}
use Rattle.image.specs.Format.{image_bytes, body_place, entry_place, slots_in, rules_in, id_at, entry_slot, offset_at, record_at}
use Rattle.image.specs.Checks.{in_turn, field, check_header, lowest_slot, check_entry, check_body, check_contents, check_bodies, image_checks, meant, load_checks}
use Rattle.refusals.specs.Rows.{Row}
use Rattle.refusals.proofs.RowsLaws.{Agrees, rows_then, passing}
use Rattle.refusals.specs.Calls.{shape_row, twice_row, order_row, field_row, rows_in_turn, entry_rows, body_rows, load_rows}
use Rattle.refusals.proofs.TableLaws.{test_row, shape_row_lem, twice_row_lem, order_row_lem}

-- a field that is right exactly when its row's condition does not hold
field_row_lem : (right : Bool) (condition : Type 0) (offset : ℕ) → (right ≡ true → condition → ⊥) → (right ≡ false → condition)
    → Agrees (field right offset) (field_row condition offset ∷ [])
field_row_lem right condition offset = test_row Image condition offset right

-- checks in turn and their rows in turn
turn_rows : (check : ℕ → Check) (rows : ℕ → List Row) → ((k : ℕ) → Agrees (check k) (rows k)) → (n : ℕ) → Agrees (in_turn check n) (rows_in_turn rows n)
unfolding in_turn
turn_rows check rows each zero = passing [] tt
turn_rows check rows each (suc n) = rows_then _ _ (rows_in_turn rows n) (rows n) (turn_rows check rows each n) (λ e. each n)

-- two tests, one after the other, and what is wrong where they fail
both_tests : (a b : Bool) (A B : Type 0) → (a ≡ true → A → ⊥) → (a ≡ false → A) → (b ≡ true → B → ⊥) → (b ≡ false → B)
    → (a && b ≡ true → A ⊎ B → ⊥) × (a && b ≡ false → A ⊎ B)
both_tests true b A B a-right a-wrong b-right b-wrong = (λ e bad. ⊎_elim (a-right refl) (b-right e) bad, λ e. inr (b-wrong e))
both_tests false b A B a-right a-wrong b-right b-wrong = (λ e. absurd (true≢false (sym e)), λ e. inl (a-wrong refl))

less_tests : (x y : ℕ) → (leb x y ≡ true → y < x → ⊥) × (leb x y ≡ false → y < x)
less_tests x y = (λ e l. omega (arith, l, leb-true x y e), λ e. pick e (dec_lt y x))
  where
    pick : leb x y ≡ false → Dec (y < x) → y < x
    pick e (yes l) = l
    pick e (no l) = absurd (true≢false (sym (le-leb x y (omega arith)) ∙ e))

below_tests : (x y : ℕ) → (ltb x y ≡ true → y ≤ x → ⊥) × (ltb x y ≡ false → y ≤ x)
below_tests x y = (λ e l. omega (arith, l, ltb-true x y e), λ e. pick e (dec_le y x))
  where
    pick : ltb x y ≡ false → Dec (y ≤ x) → y ≤ x
    pick e (yes l) = l
    pick e (no l) = absurd (true≢false (sym (lt-ltb x y (omega arith)) ∙ e))

equal_tests : (x y : ℕ) → (eqb x y ≡ true → (x ≡ y → ⊥) → ⊥) × (eqb x y ≡ false → x ≡ y → ⊥)
equal_tests x y = (λ e bad. bad (eqb-true x y e), λ e. eqb-false x y e)

module _ (w : ℕ) (b : List ℕ) (n : ℕ) where
  header_rows : Agrees (check_header w b n)
      (field_row ((length b < 4) ⊎ (slots_in b ≡ n → ⊥)) 0 ∷ field_row ((n < rules_in b) ⊎ (length b ≡ image_bytes w (rules_in b) → ⊥)) 2 ∷ [])
  unfolding check_header
  header_rows =
      let long = less_tests 4 (length b) in
      let same = equal_tests (slots_in b) n in
      let first = both_tests (leb 4 (length b)) (eqb (slots_in b) n) _ _ long.0 long.1 same.0 same.1 in
      let few = less_tests (rules_in b) n in
      let whole = equal_tests (length b) (image_bytes w (rules_in b)) in
      let second = both_tests (leb (rules_in b) n) (eqb (length b) (image_bytes w (rules_in b))) _ _ few.0 few.1 whole.0 whole.1 in
      rows_then _ _ (field_row _ 0 ∷ []) _ (field_row_lem _ _ 0 first.0 first.1) (λ e. field_row_lem _ _ 2 second.0 second.1)

  entry_rows_lem : (e k : ℕ) → Agrees (check_entry w b n e k) (entry_rows w b n e k)
  unfolding check_entry
  entry_rows_lem e k =
      let below = below_tests (entry_slot b k) n in
      let above = less_tests (lowest_slot b k) (entry_slot b k) in
      let slot = both_tests (ltb (entry_slot b k) n) (leb (lowest_slot b k) (entry_slot b k)) _ _ below.0 below.1 above.0 above.1 in
      let exact = equal_tests (offset_at b k) (body_place w e k) in
      rows_then _ _ (field_row _ (entry_place k) ∷ []) _
      (field_row_lem (not (eqb (id_at b k) 0)) (id_at b k ≡ 0) (entry_place k)
      (λ named z. eqb-false (id_at b k) 0 (not-true _ named) z)
      (λ unnamed. eqb-true (id_at b k) 0 (not-false (eqb (id_at b k) 0) unnamed)))
      (λ f. rows_then _ _ (field_row _ (entry_place k + 4) ∷ []) _ (field_row_lem _ _ (entry_place k + 4) slot.0 slot.1)
      (λ g. field_row_lem _ _ (entry_place k + 6) exact.0 exact.1))
    where
      not-false : (x : Bool) → not x ≡ false → x ≡ true
      not-false true h = refl
      not-false false h = absurd (true≢false h)

  body_rows_lem : (e k : ℕ) → Agrees (check_body w b e k) (body_rows w b e k)
  unfolding check_body
  body_rows_lem e k =
      let x = word (record_at w b e k) in
      let law = sound_record_law w x in
      field_row_lem (sound w x) _ (body_place w e k) (λ s bad. bad (law.0 s)) (λ s good. true≢false (sym (law.1 good) ∙ s))

pub load_rows_lem : (w : ℕ) (u : Bool) (b t : List ℕ) → Agrees (load_checks w u b t) (load_rows w u b t)
unfolding load_checks image_checks check_contents check_bodies
load_rows_lem w u b t =
    let n = slots w t in
    let e = rules_in b in
    rows_then _ _ _ (twice_row w (meant w b (length t)) ∷ order_row w u (meant w b (length t)) ∷ [])
    (rows_then _ _ (shape_row w t ∷ []) _ (shape_row_lem w t)
    (λ f. rows_then _ _ _ _ (header_rows w b n)
    (λ g. rows_then _ _ (rows_in_turn (entry_rows w b n e) e) (rows_in_turn (body_rows w b e) e)
    (turn_rows _ _ (entry_rows_lem w b n e) e) (λ h. turn_rows _ _ (body_rows_lem w b n e) e))))
    (λ f. rows_then _ _ (twice_row w (meant w b (length t)) ∷ []) _ (twice_row_lem w (meant w b (length t))) (λ g. order_row_lem w u (meant w b (length t))))
