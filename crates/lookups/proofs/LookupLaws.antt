-- End theorems on lookup: its three cases in words, the reply, and where a slot's record lies.
use Rattle.std.specs.Prelude.{◌≡◌, refl, true, false, ◌&&◌, ◌↔◌, ◌⊎◌, List, [], ◌∷◌, ℕ, ◌*◌, ◌<◌, ltb, length, get_or, Option, Some, None, Result, Ok, Err}
use Rattle.std.proofs.Math.Path.{ap}
use Rattle.std.specs.Result.{is_err}
use Rattle.std.proofs.Common.{◌∙◌, ⊎_elim, arith, length-take, length-drop}
use Rattle.std.proofs.lemmas.Bool.{false≢true}
use Rattle.std.proofs.Math.Logic.◌⊎◌.{inl, inr}
use Rattle.std.proofs.Math.ListN.{drop}
use Rattle.std.proofs.Math.Decide.{dec_lt}
use borrow.Author.Tests.{lt-ltb, le-ltb, ltb-true}
use Rattle.search.specs.Search.{Least}
use Rattle.search.specs.SearchLaws.{least_at, least_none, decided, and_left, and_right, and_both}
use Rattle.ternary.specs.Pattern.{Words}
use Rattle.records.specs.Record.{record_words, slot_words, slot_matches, ident, action, occupied}
use Rattle.records.specs.Order.{slots}
use Rattle.records.specs.Checks.{Told, refusal, passes, slot_checks, first_match}
use Rattle.records.proofs.Laws.{answer_told_once, slot_within, first_match_law, hit_id}
use Rattle.records.specs.Widths.{Width, check_width}
use Rattle.records.proofs.WidthsLaws.{width_law}
use Rattle.records.specs.declared.Cause.{Cause}
use Rattle.records.specs.Verdict.{Check, Pass, Fail, checked}
use Rattle.records.specs.declared.Refusal.{Refusal}
use Rattle.lookups.specs.declared.Hit.{Hit}
use Rattle.lookups.specs.Lookup.{lookup_answer, reply, hit_at, Case, NoMatch, FirstAt, lookup_told, lookup_values, shown, match_told}
use Rattle.lookups.specs.Lookup.{shown_call, part_start_call, part_length_call, record_part_call, hit, refused_by, miss}

pub passes_law : (c : Check) → passes c ≡ true → c ≡ Pass
passes_law Pass e = refl
passes_law (Fail cause spot) e = absurd (false≢true e)

-- a check that is an error has not passed
pub declined : (r : Result (Unit {0}) Refusal) → is_err r ≡ true → passes (checked r) ≡ false
declined (Ok done) e = absurd (false≢true e)
declined (Err refused) e = refl

pub shown_law : (w : ℕ) (t : List ℕ) (i : ℕ)
    → (shown w t i ≡ true) ↔ ((slot_checks w t ≡ Pass) × (i < slots w t) × (occupied w (slot_words w t i) ≡ true))
unfolding shown
shown_law w t i =
    let a = passes (slot_checks w t) in
    let b = ltb i (slots w t) in
    let o = occupied w (slot_words w t i) in (
      λ e. let r = and_right a (b && o) e in (passes_law (slot_checks w t) (and_left a (b && o) e), ltb-true i (slots w t) (and_left b o r), and_right b o r),
      λ s. and_both a (b && o) (ap passes s.0) (and_both b o (lt-ltb i (slots w t) s.1) s.2),
    )

-- what the call shows: the same, at a width that there is
pub shown_call_law : (w : ℕ) (t : List ℕ) (i : ℕ)
    → (shown_call w t i ≡ true) ↔ (Width w × (slot_checks w t ≡ Pass) × (i < slots w t) × (occupied w (slot_words w t i) ≡ true))
unfolding shown_call
shown_call_law w t i =
    let a = passes (check_width w) in
    let b = shown w t i in (
      λ e. let s = (shown_law w t i).0 (and_right a b e) in ((width_law w).0 (passes_law (check_width w) (and_left a b e)), s.0, s.1, s.2),
      λ s. and_both a b (ap passes ((width_law w).1 s.0)) ((shown_law w t i).1 (s.1, s.2, s.3)),
    )

-- where that part lies
pub part_shown : (w : ℕ) (t : List ℕ) (i : ℕ)
    → shown_call w t i ≡ true → (part_start_call w t i ≡ i * record_words w) × (part_length_call w t i ≡ record_words w)
unfolding part_start_call part_length_call
part_shown w t i e = (rw e, rw e)

pub part_hidden : (w : ℕ) (t : List ℕ) (i : ℕ) → shown_call w t i ≡ false → (part_start_call w t i ≡ 0) × (part_length_call w t i ≡ 0)
unfolding part_start_call part_length_call
part_hidden w t i e = (rw e, rw e)

pub part_count : (w : ℕ) (t : List ℕ) (i : ℕ) → length (record_part_call w t i) ≡ part_length_call w t i
part_count w t i = pick (decided (shown_call w t i))
  where
    pick : (shown_call w t i ≡ true) ⊎ (shown_call w t i ≡ false) → length (record_part_call w t i) ≡ part_length_call w t i
    pick (inl e) =
        let p = part_shown w t i e in
        let h = slot_within w t i ((shown_call_law w t i).0 e).2 in
        length-take (part_length_call w t i) (drop (part_start_call w t i) t) ∙ (let d = length-drop (part_start_call w t i) t in omega (arith, p.0, p.1))
    pick (inr e) =
        let p = part_hidden w t i e in length-take (part_length_call w t i) (drop (part_start_call w t i) t) ∙ (omega (arith, p.1))

-- a part without words is hidden, and one with words is shown
pub part_none : (w : ℕ) (t : List ℕ) (i : ℕ) → part_length_call w t i ≡ 0 → shown_call w t i ≡ false
part_none w t i e = ⊎_elim (λ s. absurd (let p = part_shown w t i s in omega (arith, p.1))) (λ s. s) (decided (shown_call w t i))

pub part_some : (w : ℕ) (t : List ℕ) (i : ℕ) → (part_length_call w t i ≡ 0 → ⊥) → shown_call w t i ≡ true
part_some w t i f = ⊎_elim (λ s. s) (λ s. absurd (f (part_hidden w t i s).1)) (decided (shown_call w t i))

counts : {a b : Told} → a ≡ b → (length a.values ≡ length b.values → ⊥) → ⊥
counts e f = f (ap (λ (t : Told). length t.values) e)

-- answers that tell the same are the same: the number and the values of a case lose nothing
pub lookup_told_once : (a b : Result (Option Hit) Refusal) → lookup_told a ≡ lookup_told b → a ≡ b
lookup_told_once = answer_told_once lookup_values same
  where
    same : (x y : Option Hit) → lookup_values x ≡ lookup_values y → x ≡ y
    same (Some h) (Some g) e =
        let at : (k : ℕ) → get_or (lookup_values (Some h)) k 0 ≡ get_or (lookup_values (Some g)) k 0 = λ k. ap (λ (l : List ℕ). get_or l k 0) e in
        λ i. Some (record { slot = at 0 i; id = at 1 i; action = at 2 i })
    same (Some h) None e = absurd (omega (arith, ap (λ (l : List ℕ). length l) e))
    same None (Some g) e = absurd (omega (arith, ap (λ (l : List ℕ). length l) e))
    same None None e = refl

-- What lookup answers, in words: each case has its answer, and one of the cases holds.
module _ (w : ℕ) (t : List ℕ) (key : Words) where
  first_at : (i : ℕ) → FirstAt w t key i → first_match w t key ≡ i
  unfolding first_match
  first_at i f = least_at (λ (k : ℕ). slot_matches w key (slot_words w t k)) (slots w t) i f.0 f.2 f.1

  first_none : NoMatch w t key → first_match w t key ≡ slots w t
  unfolding first_match
  first_none f = least_none (λ (k : ℕ). slot_matches w key (slot_words w t k)) (slots w t) f

  match_hit : (i : ℕ) → FirstAt w t key i → match_told w t (first_match w t key) ≡ lookup_told (Ok (Some (hit_at w t i)))
  unfolding match_told
  match_hit i f = rw (first_at i f, lt-ltb i (slots w t) f.0)

  match_miss : NoMatch w t key → match_told w t (first_match w t key) ≡ lookup_told (Ok None)
  unfolding match_told
  match_miss f = rw (first_none f, le-ltb (slots w t) (slots w t) (omega arith))

  pub lookup_hit : (i : ℕ) → slot_checks w t ≡ Pass → FirstAt w t key i → lookup_answer w t key ≡ lookup_told (Ok (Some (hit_at w t i)))
  unfolding lookup_answer
  lookup_hit i e f = rw e (match_hit i f)

  pub lookup_miss : slot_checks w t ≡ Pass → NoMatch w t key → lookup_answer w t key ≡ lookup_told (Ok None)
  unfolding lookup_answer
  lookup_miss e f = rw e (match_miss f)

  pub lookup_refused : (cause : Cause) (spot : ℕ) → slot_checks w t ≡ Fail cause spot → lookup_answer w t key ≡ refusal cause spot
  unfolding lookup_answer
  lookup_refused cause spot e = rw e

  -- the reply: a hit's id and action, or nothing
  pub reply_hit : (i : ℕ) → FirstAt w t key i → reply w t key ≡ ident w (slot_words w t i) ∷ action w (slot_words w t i) ∷ []
  unfolding hit_at
  reply_hit i f = ap (λ (told : Told). drop 1 told.values) (match_hit i f)

  pub reply_miss : NoMatch w t key → reply w t key ≡ []
  reply_miss f = ap (λ (told : Told). drop 1 told.values) (match_miss f)

  -- a hit's id is not 0, so that id 0 in the cells of a C caller tells a miss
  pub hit_not_zero : (i : ℕ) → slot_checks w t ≡ Pass → FirstAt w t key i → ident w (slot_words w t i) ≡ 0 → ⊥
  hit_not_zero i e f z =
      hit_id w t key e (let at = first_at i f in omega (arith, f.0)) (ap (λ (k : ℕ). ident w (slot_words w t k)) (first_at i f) ∙ z)

  pub lookup_cases : Case w t key
  lookup_cases = by (slot_checks w t) refl
    where
      law : Least (λ (i : ℕ). slot_matches w key (slot_words w t i)) 0 (slots w t) (first_match w t key)
      law = first_match_law w t key

      found : slot_checks w t ≡ Pass → Dec (first_match w t key < slots w t) → Case w t key
      found e (yes h) = hit (first_match w t key) e (h, law.hit h, λ j l. law.before j (omega arith) l)
      found e (no h) = miss e (λ j l. law.before j (omega arith) (omega arith))

      by : (c : Check) → slot_checks w t ≡ c → Case w t key
      by Pass e = found e (dec_lt (first_match w t key) (slots w t))
      by (Fail cause spot) e = refused_by cause spot e
