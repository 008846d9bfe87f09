-- Laws on widths: what the check of a width means, how a call ends behind such a check, and the slots of a table at one.
use Rattle.std.specs.Prelude.{◌≡◌, refl, Bool, true, false, cond, ◌||◌, ◌↔◌, List, ℕ, ◌+◌, ◌/◌, ◌≤◌, ◌<◌, eqb, length}
use Rattle.std.proofs.Common.{sym, ap, ◌∙◌, ⊎_elim, zero-add, zero-mul, div-le_self, arith, eqb-true, eq-eqb, ne_eqb}
use Rattle.std.proofs.Math.Path.{fun_ext}
use Rattle.std.proofs.Math.Logic.◌⊎◌.{inl, inr}
use Rattle.std.proofs.Math.Nat.{div_self}
use Rattle.records.specs.Record.{word, record_words, slot_words}
use Rattle.records.specs.Order.{slots}
use Rattle.records.specs.Checks.{Told, refusal, unless, or_else}
use Rattle.records.proofs.Laws.{one_of_two, pass_law, or_else_pass, told_refused, told_answered}
use Rattle.records.specs.Widths.{known, Width, check_width, check_words, check_key, check_rule, leaves}
use Rattle.records.specs.declared.Cause.{Cause}
use Rattle.records.specs.declared.Cause.TheVariants.{Shape}
use Rattle.records.specs.Verdict.{Check}
use Rattle.records.specs.Verdict.{Pass, Fail}

pub two : Width 2
two = (omega arith, omega arith, inl refl)

pub five : Width 5
five = (omega arith, omega arith, inr refl)

-- a width that is not 2 is 5
pub other_width : {w : ℕ} → Width w → (w ≡ 2 → ⊥) → w ≡ 5
other_width (l, h, inl e) f = absurd (f e)
other_width (l, h, inr e) f = e

-- the check of a width, and of the words lent with it
known_law : (w : ℕ) → (known w ≡ true) ↔ Width w
unfolding known
known_law w = (to, from)
  where
    to : eqb w 2 || eqb w 5 ≡ true → Width w
    to e = ⊎_elim (λ same. (omega arith, omega arith, inl same)) (λ same. (omega arith, omega arith, inr same)) ((one_of_two 2 5 w).0 e)

    from : Width w → eqb w 2 || eqb w 5 ≡ true
    from known = (one_of_two 2 5 w).1 known.2

pub width_law : (w : ℕ) → (check_width w ≡ Pass) ↔ Width w
unfolding check_width
width_law w = (λ e. (known_law w).0 ((pass_law Shape 0 (known w)).0 e), λ h. (pass_law Shape 0 (known w)).1 ((known_law w).1 h))

pub words_law : (words needed : ℕ) → (check_words words needed ≡ Pass) ↔ (words ≡ needed)
unfolding check_words
words_law words needed = (
  λ e. eqb-true words needed ((pass_law Shape 0 (eqb words needed)).0 e),
  λ h. (pass_law Shape 0 (eqb words needed)).1 (eq-eqb words needed h),
)

pub words_refused : (words needed : ℕ) → (words ≡ needed → ⊥) → check_words words needed ≡ Fail Shape 0
unfolding check_words
words_refused words needed other = rw (ne_eqb words needed other)

lent_law : (w words needed : ℕ) → (or_else (check_width w) (check_words words needed) ≡ Pass) ↔ (Width w × (words ≡ needed))
lent_law w words needed = (
  λ e. let both = (or_else_pass (check_width w) (check_words words needed)).0 e in ((width_law w).0 both.0, (words_law words needed).0 both.1),
  λ h. (or_else_pass (check_width w) (check_words words needed)).1 ((width_law w).1 h.0, (words_law words needed).1 h.1),
)

pub key_law : (w words : ℕ) → (check_key w words ≡ Pass) ↔ (Width w × (words ≡ w))
unfolding check_key
key_law w words = lent_law w words w

pub rule_law : (w words : ℕ) → (check_rule w words ≡ Pass) ↔ (Width w × (words ≡ record_words w))
unfolding check_rule
rule_law w words = lent_law w words (record_words w)

-- a call that changes nothing leaves what was lent, whatever its check says
pub leaves_same : {A : Type 0} (check : Check) (a : A) → a ≡ leaves check a a
leaves_same Pass a = refl
leaves_same (Fail cause spot) a = refl

-- checks that fail with 1 alike may be made in either order
pub shape_turn : (w lent words needed : ℕ) (answer : Told)
    → unless (check_rule w lent) (unless (check_words words needed) answer) ≡ unless (check_words words needed) (unless (check_rule w lent) answer)
unfolding check_rule check_width check_words
shape_turn w lent words needed answer = by (known w) (eqb lent (record_words w)) (eqb words needed)
  where
    shape : Bool → Check
    shape b = cond b Pass (Fail Shape 0)

    by : (a b c : Bool) → unless (or_else (shape a) (shape b)) (unless (shape c) answer) ≡ unless (shape c) (unless (or_else (shape a) (shape b)) answer)
    by true true c = refl
    by true false true = refl
    by true false false = refl
    by false b true = refl
    by false b false = refl

-- a table has no more slots than words: so the number of a slot fits where the number of words does
pub slots_fit : (w : ℕ) (t : List ℕ) → slots w t ≤ length t
slots_fit w t = div-le_self (length t) (record_words w)

-- a record that is lent is a table of one slot, and that slot has the record's words
pub lent_slot : (w : ℕ) (l : List ℕ) → length l ≡ record_words w → 0 < slots w l
lent_slot w l size = let one : slots w l ≡ 1 = ap (λ (n : ℕ). n / record_words w) size ∙ div_self (omega arith) in omega arith

pub lent_words : (w : ℕ) (l : List ℕ) → slot_words w l 0 ≡ word l
lent_words w l = fun_ext (λ j. ap (word l) (ap (λ (k : ℕ). k + j) (zero-mul (record_words w)) ∙ zero-add j))

-- a call behind a check of its own ends in one of two ways: refused, with the lent words as they were, or as what stands behind the check ends
pub call_refused : {x y : Check} {cause : Cause} {spot : ℕ} (answer : Told) (after before : List ℕ) → x ≡ y → x ≡ Fail cause spot
    → (refusal cause spot ≡ unless y answer) × (before ≡ leaves y after before)
call_refused answer after before e f = (told_refused answer e f, ap (λ (z : Check). leaves z after before) (sym f ∙ e))

pub call_answered : {x y : Check} {told answer : Told} {left after : List ℕ} (before : List ℕ) → x ≡ y → x ≡ Pass → (told ≡ answer) × (left ≡ after)
    → (told ≡ unless y answer) × (left ≡ leaves y after before)
call_answered {after = after} before e f h = (told_answered e f h.0, h.1 ∙ ap (λ (z : Check). leaves z after before) (sym f ∙ e))
