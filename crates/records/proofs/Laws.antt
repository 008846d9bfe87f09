-- End theorems on the checks, in document 01's words: shape, records, ids and order, each exactly, and each spot the lowest.
-- These are the sentences a reader goes by; callers cite them and not the text of the definitions.
use Rattle.std.specs.Prelude.{◌≡◌, refl, Bool, true, false, not, cond, ◌&&◌, ◌||◌, ◌↔◌, ◌⊎◌, List, [], ◌∷◌, ℕ, pred, ◌+◌, ◌*◌, ◌/◌, ◌%◌, ◌≤◌, ◌<◌, eqb, ltb, leb, length, get_or}
use Rattle.std.proofs.Common.{Result, Ok, Err, sym, ap, ◌∙◌, true≢false, ⊎_elim, div-add-mod', add-zero, zero-add, mul-le-mul_right, arith, eqb-true, eq-eqb, ne_eqb, leb-true, le-leb, lt-ltb, ltb-true, ltb-false}
use Rattle.std.proofs.Math.Bool.{and_comm, and-false}
use Rattle.std.proofs.lemmas.Bool.{false≢true, eqb-false, lt-leb, not-true}
use Rattle.std.proofs.Math.Logic.◌⊎◌.{inl, inr}
use Rattle.std.proofs.Math.Decide.{dec_le}
use Rattle.std.proofs.Math.Arith.{digits_div, digits_mod}
use Rattle.search.specs.Search.{least, Least, any}
use Rattle.search.specs.SearchLaws.{all_law, all_not, least_law, least_cong, any_no, any_none, decided, and_law, and_left, and_right, and_both}
use Rattle.ternary.specs.Pattern.{Words, Matches, Within, within, full_mask}
use Rattle.ternary.proofs.PatternLaws.{overlaps_law, matches_law, within_law, full_law}
use Rattle.records.specs.Record.{word, record_words, slot_words, value, mask, ident, action, rank, empty, occupied, rank_fits, sound, sound_parts, sound_rule, sound_lent}
use Rattle.records.specs.Record.{slot_matches, pattern_matches}
use Rattle.records.specs.Sound.{RankFits, SoundRecord, SoundRule}
use Rattle.records.specs.Order.{slots, overlapping, same_id, distinct, compared, precedes, tied, misordered, Ordered, InOrder, Overlapping, ActionsDiffer}
use Rattle.records.specs.Checks.{cause_number, Told, refusal, answer_told, unless, or_else, lowest, shaped, check_shape, slot_checks, table_checks, unsound_at}
use Rattle.records.specs.Checks.{check_records, twice_at, check_twice, disorder_at, check_order, matches_at, first_match, EmptyOrSound, compared_at, Shaped}
use Rattle.records.specs.declared.Rule.{Rule}
use Rattle.records.specs.declared.Cause.{Cause}
use Rattle.records.specs.declared.Cause.TheVariants.{Shape, Record, Twice, Order, Rule as RuleCause, Known, Unknown, Tie, Full, Crossed, Short, Write, Line}
use Rattle.records.specs.declared.Cause.TheVariants.{Image, Uncrossed, Plan, Damage, Edition, Open, Session, Absent, Room}
use Rattle.records.specs.Verdict.{Check, Pass, Fail, checked}
use Rattle.records.specs.declared.Refusal.{Refusal}
use Rattle.std.specs.Result.{IsErrAnd, is_err}
use Rattle.std.proofs.lemmas.Result.{err_from_is_err_and}
use Rattle.records.proofs.ChecksLaws.{lowest_at_lem, lowest_none}

-- a row of checks, as code returns from it
-- a check that is no error has passed
pub checked_ok : (r : Result (Unit {0}) Refusal) → is_err r ≡ false → checked r ≡ Pass
checked_ok (Ok done) e = refl
checked_ok (Err refused) e = absurd (true≢false e)

-- what the exit of a `?` returns: the refusal that it was given
pub is_refusal : {T : Type 0} {refused : Refusal} (r : Result T Refusal) → IsErrAnd r (λ x. x ≡ refused) → r ≡ Err refused
is_refusal r e = let p = err_from_is_err_and r e in p.1 ∙ ap Err p.2

pub failed : {x y : Check} {cause : Cause} {spot : ℕ} (next : Check) → x ≡ y → x ≡ Fail cause spot → Fail cause spot ≡ or_else y next
failed next e f = ap (λ (z : Check). or_else z next) (sym f ∙ e)

pub passed : {x y : Check} {answer next : Check} → x ≡ y → x ≡ Pass → answer ≡ next → answer ≡ or_else y next
passed {next = next} e f h = h ∙ ap (λ (z : Check). or_else z next) (sym f ∙ e)

-- an answer behind a row of checks, as code returns it
pub told_refused : {x y : Check} {cause : Cause} {spot : ℕ} (answer : Told) → x ≡ y → x ≡ Fail cause spot → refusal cause spot ≡ unless y answer
told_refused answer e f = ap (λ (z : Check). unless z answer) (sym f ∙ e)

pub told_answered : {x y : Check} {told answer : Told} → x ≡ y → x ≡ Pass → told ≡ answer → told ≡ unless y answer
told_answered {answer = answer} e f h = h ∙ ap (λ (z : Check). unless z answer) (sym f ∙ e)

-- the same behind a `?`, whose arms say what the check was
pub stops : {y : Check} {cause : Cause} {spot : ℕ} (next : Check) → Fail cause spot ≡ y → Fail cause spot ≡ or_else y next
stops {cause = cause} {spot = spot} next e = failed {x = Fail cause spot} next e refl

pub goes_on : {y answer next : Check} → Pass ≡ y → answer ≡ next → answer ≡ or_else y next
goes_on e h = passed {x = Pass} e refl h

pub told_stops : {y : Check} {cause : Cause} {spot : ℕ} (answer : Told) → Fail cause spot ≡ y → refusal cause spot ≡ unless y answer
told_stops {cause = cause} {spot = spot} answer e = told_refused {x = Fail cause spot} answer e refl

pub told_goes_on : {y : Check} {told answer : Told} → Pass ≡ y → told ≡ answer → told ≡ unless y answer
told_goes_on e h = told_answered {x = Pass} e refl h

pass_fail : {cause : Cause} {spot : ℕ} → Fail cause spot ≡ Pass → ⊥
pass_fail e = let z : ◌≡◌ {A = ℕ} 0 1 = cc in omega arith

-- a row passes exactly when both parts do
pub or_else_pass : (x y : Check) → (or_else x y ≡ Pass) ↔ ((x ≡ Pass) × (y ≡ Pass))
or_else_pass Pass y = (λ e. (refl, e), λ p. p.1)
or_else_pass (Fail cause spot) y = (λ e. absurd (pass_fail e), λ p. absurd (pass_fail p.0))

-- the cause of a number: each cause has one number, and each number one cause
cause_of : ℕ → Cause
cause_of n = get_or (Shape ∷ Record ∷ Twice ∷ Order ∷ RuleCause ∷ Known ∷ Unknown ∷ Tie ∷ Full ∷ Crossed ∷ Short ∷ Write ∷ Line ∷ Image ∷ Uncrossed ∷ Plan ∷ Damage ∷ Edition ∷ Open ∷ Session ∷ Absent ∷ Room ∷ []) (pred n) Shape

cause_back : (c : Cause) → cause_of (cause_number c) ≡ c
unfolding cause_of
cause_back Shape = refl
cause_back Record = refl
cause_back Twice = refl
cause_back Order = refl
cause_back RuleCause = refl
cause_back Known = refl
cause_back Unknown = refl
cause_back Tie = refl
cause_back Full = refl
cause_back Crossed = refl
cause_back Short = refl
cause_back Write = refl
cause_back Line = refl
cause_back Image = refl
cause_back Uncrossed = refl
cause_back Plan = refl
cause_back Damage = refl
cause_back Edition = refl
cause_back Open = refl
cause_back Session = refl
cause_back Absent = refl
cause_back Room = refl

-- no cause has the number of a success
pub cause_not_zero : (c : Cause) → eqb (cause_number c) 0 ≡ false
cause_not_zero Shape = refl
cause_not_zero Record = refl
cause_not_zero Twice = refl
cause_not_zero Order = refl
cause_not_zero RuleCause = refl
cause_not_zero Known = refl
cause_not_zero Unknown = refl
cause_not_zero Tie = refl
cause_not_zero Full = refl
cause_not_zero Crossed = refl
cause_not_zero Short = refl
cause_not_zero Write = refl
cause_not_zero Line = refl
cause_not_zero Image = refl
cause_not_zero Uncrossed = refl
cause_not_zero Plan = refl
cause_not_zero Damage = refl
cause_not_zero Edition = refl
cause_not_zero Open = refl
cause_not_zero Session = refl
cause_not_zero Absent = refl
cause_not_zero Room = refl

pub cause_number_once : (c d : Cause) → cause_number c ≡ cause_number d → c ≡ d
cause_number_once c d e = sym (cause_back c) ∙ (ap cause_of e ∙ cause_back d)

-- what a call tells loses nothing: its number is the cause's, and 0 for a success alone
pub answer_told_once : {T : Type 0} (values : T → List ℕ) → ((x y : T) → values x ≡ values y → x ≡ y) → (a b : Result T Refusal) → answer_told values a ≡ answer_told values b → a ≡ b
answer_told_once values same (Ok x) (Ok y) e = ap Ok (same x y (ap (λ (t : Told). t.values) e))
answer_told_once values same (Ok x) (Err d) e = absurd (true≢false (ap (λ (t : Told). eqb t.number 0) e ∙ cause_not_zero d.cause))
answer_told_once values same (Err c) (Ok y) e = absurd (true≢false (ap (λ (t : Told). eqb t.number 0) (sym e) ∙ cause_not_zero c.cause))
answer_told_once values same (Err c) (Err d) e =
    let cause = cause_number_once c.cause d.cause (ap (λ (t : Told). t.number) e) in
    let spot : c.spot ≡ d.spot = ap (λ (t : Told). get_or t.values 0 0) e in
    λ i. Err (record { cause = cause i; spot = spot i })

three : (a b d : Bool) → (a && b && d ≡ true) ↔ ((a ≡ true) × (b ≡ true) × (d ≡ true))
three a b d = (
  λ e. let ab = and_left (a && b) d e in (and_left a b ab, and_right a b ab, and_right (a && b) d e),
  λ e. and_both (a && b) d (and_both a b e.0 e.1) e.2,
)

shaped_law : (w : ℕ) (t : List ℕ) → (shaped w t ≡ true) ↔ Shaped w t
unfolding shaped
shaped_law w t =
    let tests = three (eqb (length t % record_words w) 0) (leb 1 (slots w t)) (leb (slots w t) 1024) in (
      λ e. let s = tests.0 e in
          let whole : length t % record_words w ≡ 0 = eqb-true _ _ s.0 in
          let split = div-add-mod' (length t) (record_words w) in
          (slots w t, leb-true _ _ s.1, leb-true _ _ s.2, omega arith),
      λ s. let same : length t ≡ s.0 * record_words w + 0 = s.3 ∙ sym (add-zero (s.0 * record_words w)) in
          let pos : 0 < record_words w = omega arith in
          let count : slots w t ≡ s.0 = ap (λ (x : ℕ). x / record_words w) same ∙ digits_div s.0 pos in
          let whole : length t % record_words w ≡ 0 = ap (λ (x : ℕ). x % record_words w) same ∙ digits_mod s.0 pos in
          tests.1 (eq-eqb _ _ whole, le-leb 1 (slots w t) (omega (arith, s.1)), le-leb (slots w t) 1024 (omega (arith, s.2))),
    )

-- a test that picks between passing and one refusal
pub pass_law : (cause : Cause) (spot : ℕ) (b : Bool) → (cond b Pass (Fail cause spot) ≡ Pass) ↔ (b ≡ true)
pass_law cause spot true = (λ e. refl, λ e. refl)
pass_law cause spot false = (λ e. absurd (pass_fail e), λ e. absurd (false≢true e))

-- and one that picks the other way round
pub cond_pass : (cause : Cause) (spot : ℕ) (b : Bool) → cond b (Fail cause spot) Pass ≡ Pass → b ≡ false
cond_pass cause spot true e = absurd (pass_fail e)
cond_pass cause spot false e = refl

pub shape_law : (w : ℕ) (t : List ℕ) → (check_shape w t ≡ Pass) ↔ Shaped w t
unfolding check_shape
shape_law w t = let a = pass_law Shape 0 (shaped w t) in let b = shaped_law w t in (λ e. b.0 (a.0 e), λ s. a.1 (b.1 s))

-- check 1 reads the number of words alone
pub shape_same : (w : ℕ) (t u : List ℕ) → length u ≡ length t → check_shape w u ≡ check_shape w t
unfolding check_shape shaped
shape_same w t u e = rw e

pub shape_length : (w : ℕ) (t : List ℕ) → check_shape w t ≡ Pass → length t ≤ 1024 * record_words w
shape_length w t e =
    let s = (shape_law w t).0 e in omega (arith, s.3, mul-le-mul_right (record_words w) s.2)

-- checks 1 and 2, and 1 to 4, pass exactly when each of them does
pub slot_checks_law : (w : ℕ) (t : List ℕ) → (slot_checks w t ≡ Pass) ↔ ((check_shape w t ≡ Pass) × (check_records w t ≡ Pass))
unfolding slot_checks
slot_checks_law w t = or_else_pass (check_shape w t) (check_records w t)

pub table_checks_law : (w : ℕ) (u : Bool) (t : List ℕ)
    → (table_checks w u t ≡ Pass) ↔ ((slot_checks w t ≡ Pass) × (check_twice w t ≡ Pass) × (check_order w u t ≡ Pass))
unfolding table_checks
table_checks_law w u t =
    let a = or_else_pass (slot_checks w t) (or_else (check_twice w t) (check_order w u t)) in
    let b = or_else_pass (check_twice w t) (check_order w u t) in (
      λ e. let f = a.0 e in let g = b.0 f.1 in (f.0, g.0, g.1),
      λ p. a.1 (p.0, b.1 (p.1, p.2)),
    )

pub slot_checks_length : (w : ℕ) (t : List ℕ) → slot_checks w t ≡ Pass → length t ≤ 1024 * record_words w
slot_checks_length w t e = shape_length w t ((slot_checks_law w t).0 e).0

-- the lowest slot that fails a check, exactly
pub lowest_pass : (cause : Cause) (p : ℕ → Bool) (n : ℕ) → (lowest cause p n ≡ Pass) ↔ ((i : ℕ) → i < n → p i ≡ false)
unfolding lowest
lowest_pass cause p n = (λ e i h. to (decided (ltb (least p n 0) n)) e i h, λ f. sym (lowest_none cause p n f))
  where
    l : Least p 0 (0 + n) (least p n 0)
    l = least_law p n 0

    to : (ltb (least p n 0) n ≡ true) ⊎ (ltb (least p n 0) n ≡ false) → cond (ltb (least p n 0) n) (Fail cause (least p n 0)) Pass ≡ Pass
        → (i : ℕ) → i < n → p i ≡ false
    to (inl s) e i h = absurd (pass_fail (sym (ap (λ (b : Bool). cond b (Fail cause (least p n 0)) Pass) s) ∙ e))
    to (inr s) e i h = l.before i (omega arith) (omega (arith, ltb-false (least p n 0) n s))

-- its spot is the lowest slot where the test holds
pub lowest_fail : (cause : Cause) (p : ℕ → Bool) (n spot : ℕ)
    → (lowest cause p n ≡ Fail cause spot) ↔ ((spot < n) × (p spot ≡ true) × ((i : ℕ) → i < spot → p i ≡ false))
unfolding lowest
lowest_fail cause p n spot = (λ e. to (decided (ltb (least p n 0) n)) e, λ f. sym (lowest_at_lem cause p n spot f.0 f.2 f.1))
  where
    l : Least p 0 (0 + n) (least p n 0)
    l = least_law p n 0

    to : (ltb (least p n 0) n ≡ true) ⊎ (ltb (least p n 0) n ≡ false) → cond (ltb (least p n 0) n) (Fail cause (least p n 0)) Pass ≡ Fail cause spot
        → (spot < n) × (p spot ≡ true) × ((i : ℕ) → i < spot → p i ≡ false)
    to (inl s) e =
        let f : Fail cause (least p n 0) ≡ Fail cause spot = sym (ap (λ (b : Bool). cond b (Fail cause (least p n 0)) Pass) s) ∙ e in
        let at : least p n 0 ≡ spot = cc in
        let h = ltb-true (least p n 0) n s in
        (omega arith, ap p (sym at) ∙ l.hit (omega arith), λ i k. l.before i (omega arith) (omega arith))
    to (inr s) e = absurd (pass_fail (sym (sym (ap (λ (b : Bool). cond b (Fail cause (least p n 0)) Pass) s) ∙ e)))

-- a row fails as its first failing part does
pub or_else_fail : (x y : Check) (cause : Cause) (spot : ℕ)
    → (or_else x y ≡ Fail cause spot) ↔ ((x ≡ Fail cause spot) ⊎ ((x ≡ Pass) × (y ≡ Fail cause spot)))
or_else_fail Pass y cause spot = (λ e. inr (refl, e), λ p. ⊎_elim (λ e. absurd (pass_fail (sym e))) (λ e. e.1) p)
or_else_fail (Fail c s) y cause spot = (λ e. inl e, λ p. ⊎_elim (λ e. e) (λ e. absurd (pass_fail e.0)) p)

-- an empty slot: each of its words is zero
pub empty_law : (w : ℕ) (x : Words) → (empty w x ≡ true) ↔ ((j : ℕ) → j < record_words w → x j ≡ 0)
unfolding empty
empty_law w x =
    let l = all_law (λ (j : ℕ). eqb (x j) 0) (record_words w) in
    (λ e j h. eqb-true (x j) 0 (l.0 e j h), λ f. l.1 (λ j h. eq-eqb (x j) 0 (f j h)))

-- a test of two, of which the first fails, is the second; it holds where either holds
or_right : (a b : Bool) → a ≡ false → a || b ≡ true → b ≡ true
or_right true b f e = absurd (true≢false f)
or_right false b f e = e

or_first : (a b : Bool) → a ≡ true → a || b ≡ true
or_first a b e = ap (λ (x : Bool). x || b) e

or_second : (a b : Bool) → b ≡ true → a || b ≡ true
or_second true b e = refl
or_second false b e = e

-- a number is one of two, as a width and an edition are
pub one_of_two : (a b n : ℕ) → (eqb n a || eqb n b ≡ true) ↔ ((n ≡ a) ⊎ (n ≡ b))
one_of_two a b n = (
  λ f. ⊎_elim (λ s. inl (eqb-true n a s)) (λ s. inr (eqb-true n b (or_right (eqb n a) (eqb n b) s f))) (decided (eqb n a)),
  λ k. ⊎_elim (λ s. or_first (eqb n a) (eqb n b) (eq-eqb n a s)) (λ s. or_second (eqb n a) (eqb n b) (eq-eqb n b s)) k,
)

-- document 02: a record's rank is at most 65,535, or 65,536 where every mask bit is set
pub rank_law : (w rank : ℕ) (mask : Words) → (rank_fits w rank mask ≡ true) ↔ RankFits w rank mask
unfolding rank_fits
rank_law w rank mask =
    let law = and_law (eqb rank 65536) (full_mask w mask) in
    let bits = full_law w mask in (
      λ e. ⊎_elim (λ low. inl (leb-true rank 65535 low))
          (λ high. let s = law.0 (or_right (leb rank 65535) (eqb rank 65536 && full_mask w mask) high e) in inr (eqb-true rank 65536 s.0, bits.0 s.1))
          (decided (leb rank 65535)),
      λ r. ⊎_elim (λ low. or_first (leb rank 65535) (eqb rank 65536 && full_mask w mask) (le-leb rank 65535 low))
          (λ high. or_second (leb rank 65535) (eqb rank 65536 && full_mask w mask) (law.1 (eq-eqb rank 65536 high.0, bits.1 high.1))) r,
    )

-- the same as it is asked: the mask where the rank is above all priorities
pub rank_low : (w rank : ℕ) (mask : Words) → rank ≤ 65535 → rank_fits w rank mask ≡ true
rank_low w rank mask low = (rank_law w rank mask).1 (inl low)

pub rank_exact : (w rank : ℕ) (mask : Words) → rank ≡ 65536 → rank_fits w rank mask ≡ full_mask w mask
unfolding rank_fits
rank_exact w rank mask e = ap (λ (r : ℕ). leb r 65535 || (eqb r 65536 && full_mask w mask)) e

pub rank_past : (w rank : ℕ) (mask : Words) → 65535 < rank → (rank ≡ 65536 → ⊥) → rank_fits w rank mask ≡ false
unfolding rank_fits
rank_past w rank mask high other = rw (lt-leb rank 65535 high, ne_eqb rank 65536 other)

-- a sound rule: id not 0, priority or rank in its range, each value bit outside the mask 0
pub sound_law : (w id : ℕ) (ranged : Bool) (value mask : Words)
    → (sound_parts w id ranged value mask ≡ true) ↔ ((id ≡ 0 → ⊥) × (ranged ≡ true) × Within w value mask)
unfolding sound_parts
sound_law w id ranged value mask =
    let tests = three (not (eqb id 0)) ranged (within w value mask) in (
      λ e. let s = tests.0 e in (eqb-false id 0 (not-true (eqb id 0) s.0), s.1, (within_law w value mask).0 s.2),
      λ s. tests.1 (ap not (ne_eqb id 0 s.0), s.1, (within_law w value mask).1 s.2),
    )

-- of a record and of a rule that is given, in words
pub sound_record_law : (w : ℕ) (x : Words) → (sound w x ≡ true) ↔ SoundRecord w x
sound_record_law w x =
    let law = sound_law w (ident w x) (rank_fits w (rank w x) (mask w x)) (value x) (mask w x) in
    let fits = rank_law w (rank w x) (mask w x) in
    (λ e. let s = law.0 e in (s.0, fits.0 s.1, s.2), λ s. law.1 (s.0, fits.1 s.1, s.2))

pub sound_rule_law : (w : ℕ) (r : Rule) → (sound_rule w r ≡ true) ↔ SoundRule w r
sound_rule_law w r =
    let law = sound_law w r.id (leb r.priority 65535) (word r.value) (word r.mask) in
    (λ e. let s = law.0 e in (s.0, leb-true r.priority 65535 s.1, s.2), λ s. law.1 (s.0, le-leb r.priority 65535 s.1, s.2))

-- a record that is sound as a rule is given is a sound record; so a slot that is empty or holds such a rule passes check 2
pub lent_record : (w : ℕ) (x : Words) → sound_lent w x ≡ true → sound w x ≡ true
lent_record w x e =
    let s = (sound_law w (ident w x) (leb (rank w x) 65535) (value x) (mask w x)).0 e in
    (sound_record_law w x).1 (s.0, inl (leb-true (rank w x) 65535 s.1), s.2)

pub plain_sound : (w : ℕ) (t : List ℕ) (i : ℕ) → empty w (slot_words w t i) || sound_lent w (slot_words w t i) ≡ true → unsound_at w t i ≡ false
unfolding unsound_at
plain_sound w t i e = pick (decided (empty w (slot_words w t i)))
  where
    pick : (empty w (slot_words w t i) ≡ true) ⊎ (empty w (slot_words w t i) ≡ false) → not (sound w (slot_words w t i)) && not (empty w (slot_words w t i)) ≡ false
    pick (inl s) = rw (s, and-false (not (sound w (slot_words w t i))))
    pick (inr s) = rw (lent_record w (slot_words w t i) (or_right (empty w (slot_words w t i)) (sound_lent w (slot_words w t i)) s e))

-- so a sound record's rank is at most 65,536
pub sound_rank : (w : ℕ) (x : Words) → sound w x ≡ true → rank w x ≤ 65536
sound_rank w x e = ⊎_elim (λ low. omega (arith, low)) (λ high. omega (arith, high.0)) ((sound_record_law w x).0 e).1

-- exactly which keys a slot matches: those that equal its value at all bits cared for, and none where it is empty
pub slot_matches_law : (w : ℕ) (key x : Words)
    → (slot_matches w key x ≡ true) ↔ ((occupied w x ≡ true) × Matches w key (value x) (mask w x))
unfolding slot_matches
slot_matches_law w key x =
    let a = pattern_matches w key x in
    let l = matches_law w key (value x) (mask w x) in
    (λ e. (and_right a (occupied w x) e, l.0 (and_left a (occupied w x) e)), λ s. and_both a (occupied w x) (l.1 s.1) s.0)

-- an empty slot matches no key
pub empty_matches_none : (w : ℕ) (key x : Words) → empty w x ≡ true → slot_matches w key x ≡ false
unfolding slot_matches
empty_matches_none w key x e = and_comm (pattern_matches w key x) (occupied w x) ∙ ap (λ (b : Bool). not b && pattern_matches w key x) e

-- the first match is the lowest-numbered slot that matches, or the number of slots
pub first_match_law : (w : ℕ) (t : List ℕ) (key : Words)
    → Least (λ (i : ℕ). slot_matches w key (slot_words w t i)) 0 (slots w t) (first_match w t key)
unfolding first_match
first_match_law w t key = rw zero-add at (least_law (λ (i : ℕ). slot_matches w key (slot_words w t i)) (slots w t) 0)

-- a slot's record lies within the table
pub slot_within : (w : ℕ) (t : List ℕ) (i : ℕ) → i < slots w t → i * record_words w + record_words w ≤ length t
slot_within w t i h =
    let whole = div-add-mod' (length t) (record_words w) in
    omega (arith, mul-le-mul_right (record_words w) h)

-- check 2 passes exactly when each slot is empty or a sound rule
pub records_law : (w : ℕ) (t : List ℕ)
    → (check_records w t ≡ Pass) ↔ ((i : ℕ) → i < slots w t → EmptyOrSound w (slot_words w t i))
unfolding check_records unsound_at
records_law w t =
    let l = lowest_pass Record (unsound_at w t) (slots w t) in
    (λ e i h. to (sound w (slot_words w t i)) (empty w (slot_words w t i)) (l.0 e i h), λ f. l.1 (λ i h. from (sound w (slot_words w t i)) (empty w (slot_words w t i)) (f i h)))
  where
    to : (s e : Bool) → not s && not e ≡ false → (e ≡ true) ⊎ (s ≡ true)
    to true e h = inr refl
    to false true h = inl refl
    to false false h = absurd (true≢false h)

    from : (s e : Bool) → (e ≡ true) ⊎ (s ≡ true) → not s && not e ≡ false
    from true e h = refl
    from false true h = refl
    from false false (inl h) = absurd (false≢true h)
    from false false (inr h) = absurd (false≢true h)

-- where the id is not 0, neither is the word of id and action, and the slot is occupied
named_word : (w : ℕ) (x : Words) → (ident w x ≡ 0 → ⊥) → eqb (x (2 * w)) 0 ≡ false
named_word w x f = ne_eqb (x (2 * w)) 0 (λ z. f (ap (λ (y : ℕ). y / 4294967296) z))

pub ident_not_empty : (w : ℕ) (x : Words) → (ident w x ≡ 0 → ⊥) → empty w x ≡ false
unfolding empty
ident_not_empty w x f = all_not (λ (j : ℕ). eqb (x j) 0) (record_words w) (2 * w) (omega arith) (named_word w x f)

pub ident_occupied : (w : ℕ) (x : Words) → (ident w x ≡ 0 → ⊥) → occupied w x ≡ true
ident_occupied w x f = ap not (ident_not_empty w x f)

-- that word tells an empty slot from a sound rule
pub empty_word : (w : ℕ) (x : Words) → EmptyOrSound w x → eqb (x (2 * w)) 0 ≡ empty w x
empty_word w x (inl v) = eq-eqb (x (2 * w)) 0 ((empty_law w x).0 v (2 * w) (omega arith)) ∙ sym v
empty_word w x (inr s) = let id = ((sound_law w _ _ _ _).0 s).0 in named_word w x id ∙ sym (ident_not_empty w x id)

-- where check 2 passes, a slot is empty exactly when that word is 0
pub id_word : (w : ℕ) (t : List ℕ) (i : ℕ) → check_records w t ≡ Pass → i < slots w t → eqb (slot_words w t i (2 * w)) 0 ≡ empty w (slot_words w t i)
id_word w t i e h = empty_word w (slot_words w t i) ((records_law w t).0 e i h)

-- so the pattern and that word tell which keys a slot matches, and where check 2 passes the first match
pub compared_match : (w : ℕ) (t : List ℕ) (key : Words) (i : ℕ) → EmptyOrSound w (slot_words w t i) → compared_at w t key i ≡ matches_at w t key i
unfolding compared_at slot_matches
compared_match w t key i m = ap (λ (b : Bool). pattern_matches w key (slot_words w t i) && not b) (empty_word w (slot_words w t i) m)

pub first_compared : (w : ℕ) (t : List ℕ) (key : Words) → check_records w t ≡ Pass → least (compared_at w t key) (slots w t) 0 ≡ first_match w t key
unfolding first_match
first_compared w t key e = least_cong (slots w t) 0 (λ i l h. compared_match w t key i ((records_law w t).0 e i (omega arith)))

-- a slot that is empty or a sound rule matches exactly the keys that equal that rule's value at every bit position that the rule cares for
pub rule_matches_law : (w : ℕ) (key x : Words) → EmptyOrSound w x
    → (slot_matches w key x ≡ true) ↔ ((sound w x ≡ true) × Matches w key (value x) (mask w x))
rule_matches_law w key x m =
    let l = slot_matches_law w key x in
    (λ e. let s = l.0 e in (holds m s.0, s.1), λ s. l.1 (ident_occupied w x ((sound_law w _ _ _ _).0 s.0).0, s.1))
  where
    holds : EmptyOrSound w x → occupied w x ≡ true → sound w x ≡ true
    holds (inl a) o = absurd (true≢false (sym o ∙ ap not a))
    holds (inr s) o = s

-- a check of each slot against the earlier ones passes exactly when no two slots fail the test
earlier_law : (cause : Cause) (p : ℕ → ℕ → Bool) (n : ℕ)
    → (lowest cause (λ (j : ℕ). any (λ (i : ℕ). p i j) j) n ≡ Pass) ↔ ((x y : ℕ) → x < y → y < n → p x y ≡ false)
earlier_law cause p n =
    let l = lowest_pass cause (λ (j : ℕ). any (λ (i : ℕ). p i j) j) n in
    (λ e x y h k. any_no (λ (i : ℕ). p i y) y (l.0 e y k) x h, λ f. l.1 (λ y k. any_none (λ (i : ℕ). p i y) y (λ x h. f x y h k)))

-- check 3 passes exactly when no id stands in two slots
pub twice_law : (w : ℕ) (t : List ℕ)
    → (check_twice w t ≡ Pass) ↔ ((x y : ℕ) → x < y → y < slots w t → same_id w (slot_words w t x) (slot_words w t y) ≡ false)
unfolding check_twice twice_at
twice_law w t = earlier_law Twice (λ (x y : ℕ). same_id w (slot_words w t x) (slot_words w t y)) (slots w t)

-- one id in two slots: both occupied, the ids equal
pub same_id_law : (w : ℕ) (a b : Words) → (same_id w a b ≡ true) ↔ ((occupied w a ≡ true) × (occupied w b ≡ true) × (ident w a ≡ ident w b))
unfolding same_id
same_id_law w a b =
    let i = eqb (ident w a) (ident w b) in
    let o = occupied w a && occupied w b in (
      λ e. let r = and_right i o e in (and_left (occupied w a) (occupied w b) r, and_right (occupied w a) (occupied w b) r, eqb-true _ _ (and_left i o e)),
      λ s. and_both i o (eq-eqb _ _ s.2) (and_both (occupied w a) (occupied w b) s.0 s.1),
    )

-- document 02, 2026-11: actions differ where that is asked
actions_law : (asked : Bool) (a b : ℕ) → (not (asked && eqb a b) ≡ true) ↔ (asked ≡ true → a ≡ b → ⊥)
actions_law false a b = (λ e named. absurd (false≢true named), λ f. refl)
actions_law true a b = (λ e named. eqb-false a b (not-true (eqb a b) e), λ f. ap not (ne_eqb a b (f refl)))

pair_law : (w : ℕ) (u : Bool) (a b : Words) (test : Bool)
    → ((overlapping w a b && test) && compared w u a b ≡ true) ↔ (Overlapping w u a b × (test ≡ true))
unfolding distinct
pair_law w u a b test =
    let over = overlapping w a b in
    let same = eqb (ident w a) (ident w b) in
    let asked = not (u && eqb (action w a) (action w b)) in
    let rules = occupied w a && occupied w b in
    let law = overlaps_law w (value a) (mask w a) (value b) (mask w b) in
    let actions = actions_law u (action w a) (action w b) in
    let whole = and_law (over && test) (asked && (not same && rules)) in
    let left = and_law over test in
    let named = and_law asked (not same && rules) in
    let right = and_law (not same) rules in
    let both = and_law (occupied w a) (occupied w b) in (
      λ e. let p = whole.0 e in
          let l = left.0 p.0 in
          let n = named.0 p.1 in
          let r = right.0 n.1 in
          let o = both.0 r.1 in
          ((o.0, o.1, eqb-false (ident w a) (ident w b) (not-true same r.0), law.0 l.0, actions.0 n.0), l.1),
      λ s. whole.1 (
        left.1 (law.1 s.0.3, s.1),
        named.1 (actions.1 s.0.4, right.1 (ap not (ne_eqb (ident w a) (ident w b) s.0.2), both.1 (s.0.0, s.0.1))),
      ),
    )

-- a pair out of order: the earlier of two overlapping rules has no higher rank
pub misordered_law : (w : ℕ) (u : Bool) (a b : Words) → (misordered w u a b ≡ true) ↔ (Overlapping w u a b × (rank w a ≤ rank w b))
unfolding misordered
misordered_law w u a b =
    let l = pair_law w u a b (leb (rank w a) (rank w b)) in
    (λ e. let p = l.0 e in (p.0, leb-true _ _ p.1), λ s. l.1 (s.0, le-leb _ _ s.1))

-- document 01: the higher of an overlapping pair precedes the other
pub precedes_law : (w : ℕ) (u : Bool) (a b : Words) → (precedes w u a b ≡ true) ↔ (Overlapping w u a b × (rank w b < rank w a))
unfolding precedes
precedes_law w u a b =
    let l = pair_law w u a b (ltb (rank w b) (rank w a)) in
    (λ e. let p = l.0 e in (p.0, ltb-true _ _ p.1), λ s. l.1 (s.0, lt-ltb _ _ s.1))

-- document 01: overlap at equal priority, by document 02 at equal rank
pub tied_law : (w : ℕ) (u : Bool) (a b : Words) → (tied w u a b ≡ true) ↔ (Overlapping w u a b × (rank w a ≡ rank w b))
unfolding tied
tied_law w u a b =
    let l = pair_law w u a b (eqb (rank w a) (rank w b)) in
    (λ e. let p = l.0 e in (p.0, eqb-true _ _ p.1), λ s. l.1 (s.0, eq-eqb _ _ s.1))

pub ordered_law : (w : ℕ) (u : Bool) (a b : Words) → (misordered w u a b ≡ false) ↔ Ordered w u a b
ordered_law w u a b =
    let law = misordered_law w u a b in (
      λ e oa ob d o n. higher (dec_le (rank w a) (rank w b)) (λ l. true≢false (sym (law.1 ((oa, ob, d, o, n), l)) ∙ e)),
      λ f. ⊎_elim
          (λ e. absurd (let s = law.0 e in let h = f s.0.0 s.0.1 s.0.2 s.0.3 s.0.4 in omega (arith, s.1)))
          (λ e. e) (decided (misordered w u a b)),
    )
  where
    higher : Dec (rank w a ≤ rank w b) → (rank w a ≤ rank w b → ⊥) → rank w b < rank w a
    higher (yes l) f = absurd (f l)
    higher (no l) f = omega arith

-- check 4 passes exactly when the table is in order
pub order_law : (w : ℕ) (u : Bool) (t : List ℕ) → (check_order w u t ≡ Pass) ↔ InOrder w u t
unfolding check_order disorder_at
order_law w u t =
    let l = earlier_law Order (λ (x y : ℕ). misordered w u (slot_words w t x) (slot_words w t y)) (slots w t) in (
      λ e x y h k. (ordered_law w u (slot_words w t x) (slot_words w t y)).0 (l.0 e x y h k),
      λ f. l.1 (λ x y h k. (ordered_law w u (slot_words w t x) (slot_words w t y)).1 (f x y h k)),
    )

-- document 02, 2026-11: a counted table in order is in order uncounted
pub order_loosened : (w : ℕ) (u : Bool) (t : List ℕ) → InOrder w false t → InOrder w u t
order_loosened w u t order x y less h a b apart overlap differ = order x y less h a b apart overlap (λ named. absurd (false≢true named))

-- so what passes checks 1 to 4 counted passes them uncounted
pub checks_loosened : (w : ℕ) (u : Bool) (t : List ℕ) → table_checks w false t ≡ Pass → table_checks w u t ≡ Pass
checks_loosened w u t passed =
    let c = (table_checks_law w false t).0 passed in
    (table_checks_law w u t).1 (c.0, c.1, (order_law w u t).1 (order_loosened w u t ((order_law w false t).0 c.2)))

-- of two rules one precedes the other exactly when the one order of them is out of order and the other is not
pub precedes_misordered : (w : ℕ) (u : Bool) (a b : Words) → precedes w u a b ≡ true → (misordered w u b a ≡ true) × (misordered w u a b ≡ false)
precedes_misordered w u a b e =
    let s = (precedes_law w u a b).0 e in
    let o = s.0 in (
      (misordered_law w u b a).1 (
        (o.1, o.0, λ i. o.2 (sym i), λ j h i c. o.3 j h i (c.1, c.0, λ f. c.2 (sym f)), λ named i. o.4 named (sym i)),
        omega (arith, s.1),
      ),
      (ordered_law w u a b).1 (λ oa ob d ov n. s.1),
    )

-- a hit's id is not 0: so id 0 tells a miss
pub hit_id : (w : ℕ) (t : List ℕ) (key : Words) → slot_checks w t ≡ Pass → first_match w t key < slots w t
    → ident w (slot_words w t (first_match w t key)) ≡ 0 → ⊥
hit_id w t key e h =
    let record_at_lem = (records_law w t).0 ((slot_checks_law w t).0 e).1 (first_match w t key) h in
    ((sound_law w _ _ _ _).0 ((rule_matches_law w key (slot_words w t (first_match w t key)) record_at_lem).0 ((first_match_law w t key).hit h)).0).0

-- document 01: highest priority match, by document 02 of the highest rank. In a table that passes checks 3 and 4 every other match has a lower rank than the
-- first; in an uncounted table every other match of another action.
pub highest_match_lem : (w : ℕ) (u : Bool) (t : List ℕ) (key : Words) → check_twice w t ≡ Pass → check_order w u t ≡ Pass → (j : ℕ) → j < slots w t
    → slot_matches w key (slot_words w t j) ≡ true → first_match w t key < j → ActionsDiffer w u (slot_words w t (first_match w t key)) (slot_words w t j)
    → rank w (slot_words w t j) < rank w (slot_words w t (first_match w t key))
highest_match_lem w u t key twice order j h m less differ =
    let f = first_match w t key in
    let l = first_match_law w t key in
    let a = (slot_matches_law w key (slot_words w t f)).0 (l.hit (omega arith)) in
    let b = (slot_matches_law w key (slot_words w t j)).0 m in
    let d = (twice_law w t).0 twice f j less h in
    (order_law w u t).0 order f j less h a.0 b.0
    (λ same. true≢false (sym ((same_id_law w (slot_words w t f) (slot_words w t j)).1 (a.0, b.0, same)) ∙ d))
    (λ k hk i c. c.2 (sym (a.1 k hk i c.0) ∙ b.1 k hk i c.1)) differ
