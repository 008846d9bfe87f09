-- Laws on the rows of a call at a width: 1 holds too where the width, or the words lent with the call, are others.
use Rattle.std.specs.Prelude.{◌≡◌, refl, false, ◌⊎◌, List, [], ◌∷◌, ℕ, eqb, length}
use Rattle.std.proofs.Common.{sym, ap, ap₂, ◌∙◌, true≢false, inl, inr, ⊎_elim, eqb-true}
use Rattle.std.proofs.lemmas.Bool.{eqb-false}
use Rattle.records.specs.Record.{record_words}
use Rattle.records.specs.Checks.{Told, refusal, unless, or_else}
use Rattle.records.proofs.Laws.{cause_not_zero, pass_law}
use Rattle.records.specs.Widths.{Width, known, check_width, check_words, check_key, check_rule}
use Rattle.records.proofs.WidthsLaws.{width_law}
use Rattle.records.specs.declared.Cause.{Cause}
use Rattle.records.specs.declared.Cause.TheVariants.{Shape}
use Rattle.records.specs.Verdict.{Check}
use Rattle.records.specs.Verdict.{Pass, Fail}
use Rattle.neighbour_lists.specs.Lists.{list_numbers}
use Rattle.refusals.specs.Rows.{Row, row_at, AnsweredBy}
use Rattle.refusals.proofs.RowsLaws.{Agrees, pass_not_fail, one_row, refusal_once, number_once}
use Rattle.refusals.proofs.TableLaws.{test_row}
use Rattle.refusals.specs.Calls.{OtherWidth, OtherKey, OtherRule, OtherList}

-- a check of one row, 1: where it fails, its condition holds
abbrev ShapeRow : Check → Type 0 → Type 0
ShapeRow check Other = Agrees check (row_at Shape Other 0 ∷ [])

failing : (c : Cause) (s : ℕ) (Other : Type 0) → ShapeRow (Fail c s) Other → (Shape ≡ c) × Other × (s ≡ 0)
failing c s Other agree = ⊎_elim (λ own. own) (λ later. absurd later.1) ((agree.fails c s).0 refl)

-- a call that makes such a check first
pub lent_answered : (check : Check) (Other First : Type 0) (rows : List Row) (told : Told) → ShapeRow check Other
    → AnsweredBy (row_at Shape First 0 ∷ rows) told → AnsweredBy (row_at Shape (Other ⊎ First) 0 ∷ rows) (unless check told)
lent_answered Pass Other First rows told agree answer =
    let none : Other → ⊥ = (agree.passes.0 refl).0 in
    record {
      either = answer.either;
      declined = λ cause spot. (
        λ e. ⊎_elim (λ own. inl (own.0, inr own.1, own.2)) (λ later. inr (λ o. ⊎_elim none later.0 o, later.1)) ((answer.declined cause spot).0 e),
        λ d. (answer.declined cause spot).1
            (⊎_elim (λ own. inl (own.0, ⊎_elim (λ o. absurd (none o)) (λ f. f) own.1, own.2)) (λ later. inr (λ f. later.0 (inr f), later.1)) d),
      );
      accepted = (
        λ e. let a = answer.accepted.0 e in (λ o. ⊎_elim none a.0 o, a.1),
        λ a. answer.accepted.1 (λ f. a.0 (inr f), a.1),
      );
    }
lent_answered (Fail c s) Other First rows told agree answer =
    let is = failing c s Other agree in
    record {
      either = inr (c, s, refl);
      declined = λ cause spot. (
        λ e. let same = refusal_once c cause s spot e in inl (is.0 ∙ same.0, inl is.1, sym same.1 ∙ is.2),
        λ d. ⊎_elim (λ own. ap₂ refusal (sym is.0 ∙ own.0) (is.2 ∙ sym own.2)) (λ later. absurd (later.0 (inl is.1))) d,
      );
      accepted = (
        λ e. absurd (true≢false (sym (ap (λ (n : ℕ). eqb n 0) e) ∙ cause_not_zero c)),
        λ a. absurd (a.0 (inl is.1)),
      );
    }

-- two such checks, one after the other, are one row
shape_or : (x y : Check) (Other More : Type 0) → ShapeRow x Other → ShapeRow y More → ShapeRow (or_else x y) (Other ⊎ More)
shape_or Pass y Other More first second =
    one_row (row_at Shape (Other ⊎ More) 0) y (λ e o. ⊎_elim (first.passes.0 refl).0 (second.passes.0 e).0 o)
    (λ c s e. ⊎_elim (λ own. (own.0, inr own.1, own.2)) (λ later. absurd later.1) ((second.fails c s).0 e)) (number_once 0)
shape_or (Fail c s) y Other More first second =
    one_row (row_at Shape (Other ⊎ More) 0) (Fail c s) (λ e. absurd (pass_not_fail (sym e)))
    (λ d u e. ⊎_elim (λ own. (own.0, inl own.1, own.2)) (λ later. absurd later.1) ((first.fails d u).0 e)) (number_once 0)

-- the width, the words of a key and of a rule
unknown : (w : ℕ) → known w ≡ false → (w ≡ 2) ⊎ (w ≡ 5) → ⊥
unfolding known
unknown w e is = true≢false (sym (⊎_elim (λ two. ap known two) (λ five. ap known five) is) ∙ e)

pub width_row : (w : ℕ) → ShapeRow (check_width w) (OtherWidth w)
unfolding check_width
width_row w =
    test_row Shape (OtherWidth w) 0 (known w) (λ e other. ⊎_elim other.0 other.1 ((width_law w).0 ((pass_law Shape 0 (known w)).1 e)).2)
    (λ e. (λ two. unknown w e (inl two), λ five. unknown w e (inr five)))

words_row : (words needed : ℕ) → ShapeRow (check_words words needed) (words ≡ needed → ⊥)
unfolding check_words
words_row words needed = test_row Shape _ 0 (eqb words needed) (λ e other. other (eqb-true words needed e)) (λ e. eqb-false words needed e)

pub key_row : (w : ℕ) (key : List ℕ) → ShapeRow (check_key w (length key)) (OtherKey w key)
unfolding check_key
key_row w key = shape_or _ _ _ _ (width_row w) (words_row (length key) w)

pub rule_row_lem : (w : ℕ) (rule : List ℕ) → ShapeRow (check_rule w (length rule)) (OtherRule w rule)
unfolding check_rule
rule_row_lem w rule = shape_or _ _ _ _ (width_row w) (words_row (length rule) (record_words w))

-- the numbers of a neighbour list
pub list_row : (w : ℕ) (t : List ℕ) (numbers : ℕ) → ShapeRow (check_words numbers (list_numbers w t)) (OtherList w t numbers)
list_row w t numbers = words_row numbers (list_numbers w t)

-- at a width that there is, a rule of as many words as it asks for is no other
pub no_other_rule : (w : ℕ) (rule : List ℕ) → Width w → length rule ≡ record_words w → OtherRule w rule → ⊥
no_other_rule w rule here size other = ⊎_elim (λ width. ⊎_elim width.0 width.1 here.2) (λ words. words size) other
