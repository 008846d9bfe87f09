-- End theorems on loading: how a load ends, and that of the lent table only the length counts.
use Rattle.std.specs.Prelude.{◌≡◌, Bool, List, [], ◌∷◌, ◌++◌, ℕ, zero, suc, ◌+◌, ◌-◌, ◌*◌, ◌/◌, ◌≤◌, ◌<◌, length, take, drop, replicate}
use Rattle.std.proofs.Math.Path.{refl, ap}
use Rattle.std.proofs.Common.{sym, ap₂, ◌∙◌, arith, length-append}
use Rattle.std.proofs.Math.Bool.{cond}
use Rattle.std.proofs.Math.Nat.{sub-zero}
use Rattle.records.specs.Record.{record_words, listed, put_slot}
use Rattle.records.specs.Order.{slots}
use Rattle.records.specs.Checks.{success, refusal, unless, passes, or_else, check_shape, check_twice, check_order}
use Rattle.records.proofs.Laws.{or_else_pass, failed, passed, shape_same, slot_within}
use Rattle.records.specs.declared.Cause.{Cause}
use Rattle.records.specs.Verdict.{Check}
use Rattle.records.specs.Verdict.{Pass, Fail}
use Rattle.records.proofs.RulesLaws.{length_listed}
use Rattle.image.specs.Bytes.{number_at, store}
use Rattle.image.proofs.BytesLaws.{store_then}
use Rattle.image.specs.Format.{body_place, body_word, rules_in, id_at, record_at}
use Rattle.image.specs.Checks.{image_checks, rules_put, meant, load_checks, Sound}
use Rattle.image.specs.Answers.{load_answer, load_table}
use Rattle.image.proofs.ChecksLaws.{image_law}

pub record_at_length : (w : ℕ) (b : List ℕ) (e k : ℕ) → length (record_at w b e k) ≡ record_words w
unfolding record_at
record_at_length w b e k =
    let words = listed (2 * w) (λ j. number_at b (body_place w e k + j * 8) 8) in
    length-append words ((id_at b k * 4294967296 + number_at b (body_place w e k + (2 * w * 8 + 4)) 4) ∷ number_at b (body_place w e k + 2 * w * 8) 4 ∷ [])
    ∙ omega (arith, length_listed (2 * w) (λ j. number_at b (body_place w e k + j * 8) 8))

-- a record put into a slot, its pattern first and then the two words behind it
pub record_put : (w : ℕ) (b : List ℕ) (e k : ℕ) (t : List ℕ) (slot : ℕ) {first second : List ℕ} → slot < slots w t
    → first ≡ store t (slot * record_words w) (listed (2 * w) (body_word b (body_place w e k)))
    → second ≡ store first (slot * record_words w + 2 * w)
    ((id_at b k * 4294967296 + number_at b (body_place w e k + (2 * w * 8 + 4)) 4) ∷ number_at b (body_place w e k + 2 * w * 8) 4 ∷ [])
    → second ≡ put_slot w t slot (record_at w b e k)
unfolding record_at put_slot store
record_put w b e k t slot h f s =
    let at = slot * record_words w in
    let words = listed (2 * w) (body_word b (body_place w e k)) in
    let rest = (id_at b k * 4294967296 + number_at b (body_place w e k + (2 * w * 8 + 4)) 4) ∷ number_at b (body_place w e k + 2 * w * 8) 4 ∷ [] in
    let size = length_listed (2 * w) (body_word b (body_place w e k)) in
    store_then t at (at + 2 * w) words rest (omega (arith, slot_within w t slot h)) (omega arith) f s
    ∙ ap (λ (n : ℕ). take at t ++ (words ++ rest) ++ drop (at + n) t) (length-append words rest ∙ omega arith)

-- the working table after every rule of the image is the table meant
pub meant_built : (w : ℕ) (b : List ℕ) (size : ℕ) {e : ℕ} {working after : List ℕ} → e ≡ rules_in b → working ≡ replicate size 0
    → after ≡ rules_put w b e working e → after ≡ meant w b size
unfolding meant
meant_built w b size f z e =
    e ∙ ap₂ (λ (n : ℕ) (t : List ℕ). rules_put w b n t n) f z

-- a load ends in one of three ways: its fields are wrong, the table meant fails 3 or 4, or that table is written
module _ (w : ℕ) (b t : List ℕ) where
  pub fields_shape : or_else (check_shape w t) (image_checks w b (slots w t)) ≡ Pass → check_shape w t ≡ Pass
  fields_shape p = ((or_else_pass (check_shape w t) (image_checks w b (slots w t))).0 p).0

  pub fields_sound : or_else (check_shape w t) (image_checks w b (slots w t)) ≡ Pass → Sound w b (slots w t)
  fields_sound p = (image_law w b (slots w t)).0 ((or_else_pass (check_shape w t) (image_checks w b (slots w t))).0 p).1

module _ (w : ℕ) (u : Bool) (b t : List ℕ) where
  load_refused : {cause : Cause} {spot : ℕ} → Fail cause spot ≡ load_checks w u b t → (refusal cause spot ≡ load_answer w u b t) × (t ≡ load_table w u b t)
  unfolding load_answer load_table
  load_refused e = (ap (λ (c : Check). unless c (success [])) e, ap (λ (c : Check). cond (passes c) (meant w b (length t)) t) e)

  pub load_wrong : {x : Check} {cause : Cause} {spot : ℕ} → x ≡ or_else (check_shape w t) (image_checks w b (slots w t)) → x ≡ Fail cause spot
      → (refusal cause spot ≡ load_answer w u b t) × (t ≡ load_table w u b t)
  unfolding load_checks
  load_wrong e f = load_refused (failed _ e f)

  pub load_unsound : {x : Check} {cause : Cause} {spot : ℕ} → or_else (check_shape w t) (image_checks w b (slots w t)) ≡ Pass
      → x ≡ or_else (check_twice w (meant w b (length t))) (check_order w u (meant w b (length t))) → x ≡ Fail cause spot
      → (refusal cause spot ≡ load_answer w u b t) × (t ≡ load_table w u b t)
  unfolding load_checks
  load_unsound p e f = load_refused (passed refl p (sym f ∙ e))

  pub load_written : {x : Check} → or_else (check_shape w t) (image_checks w b (slots w t)) ≡ Pass
      → x ≡ or_else (check_twice w (meant w b (length t))) (check_order w u (meant w b (length t))) → x ≡ Pass
      → (success [] ≡ load_answer w u b t) × (meant w b (length t) ≡ load_table w u b t)
  unfolding load_checks load_answer load_table
  load_written p e f =
      let all = passed refl p (sym f ∙ e) in
      (ap (λ (c : Check). unless c (success [])) all, ap (λ (c : Check). cond (passes c) (meant w b (length t)) t) all)

-- the front of a working table of zeros
take_zeros : (n m : ℕ) → n ≤ m → take {A = ℕ} n (replicate m 0) ≡ replicate n 0
take_zeros zero m h = refl
take_zeros (suc n) zero h = absurd (omega arith)
take_zeros (suc n) (suc m) h = ap (λ (l : List ℕ). 0 ∷ l) (take_zeros n m (omega arith))

pub front_zeros : (n m : ℕ) → n ≤ m → take {A = ℕ} (n - 0) (replicate m 0) ≡ replicate n 0
front_zeros n m h = ap (λ (k : ℕ). take k (replicate m 0)) (sub-zero n) ∙ take_zeros n m h

-- of the lent table only the length counts
pub lent_checks : (w : ℕ) (u : Bool) (b t v : List ℕ) → length v ≡ length t → load_checks w u b v ≡ load_checks w u b t
unfolding load_checks
lent_checks w u b t v e =
    ap₂ (λ (shape : Check) (n : ℕ). or_else (or_else shape (image_checks w b (n / record_words w))) (or_else (check_twice w (meant w b n)) (check_order w u (meant w b n))))
    (shape_same w t v e) e

pub lent_answer : (w : ℕ) (u : Bool) (b t v : List ℕ) → length v ≡ length t → load_answer w u b v ≡ load_answer w u b t
unfolding load_answer
lent_answer w u b t v e = ap (λ (check : Check). unless check (success [])) (lent_checks w u b t v e)
