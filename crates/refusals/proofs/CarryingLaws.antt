-- Laws on the rows of a step: 12 for the progress, and 5, 18 and 12 for the next write, where one is to be made.
use Rattle.std.proofs.Math.Path.{◌≡◌}
use Rattle.std.specs.Prelude.{refl, Bool, true, cond, ◌&&◌, ◌||◌, ◌↔◌, ◌⊎◌, List, [], ◌∷◌, ◌++◌, ℕ, ◌+◌, ◌≤◌, ◌<◌, eqb, ltb, length, get_or}
use Rattle.std.proofs.Common.{sym, ap, ◌∙◌, subst}
use Rattle.std.proofs.Math.Bool.{false, or-true, true≢false}
use Rattle.std.proofs.Math.Logic.{inl, inr, ⊎_elim}
use Prim.{tt}
use native.Mathlib.Omega.{arith}
use Rattle.std.proofs.Math.Decide.{dec_lt}
use Rattle.std.proofs.Math.Dec.{leb}
use borrow.Author.Tests.{eqb-true, eqb-false, leb-true, le-leb, lt-ltb, ltb-true}
use Rattle.search.specs.SearchLaws.{and_law, decided}
use Rattle.layout.specs.Write.{Write, copy, put, clear}
use Rattle.plan_words.specs.PlanWords.{write_of}
use Rattle.ternary.specs.Pattern.{Words}
use Rattle.records.specs.Record.{word, slot_words, sound_rule, record_of}
use Rattle.records.specs.Order.{slots, equal_rule, EqualRules}
use Rattle.records.proofs.EqualLaws.{equal_law}
use Rattle.records.specs.Sound.{SoundRule}
use Rattle.records.specs.Checks.{Told, success, unless, or_else}
use Rattle.records.specs.Entries.{entries}
use Rattle.records.specs.Writes.{fits_write, EntryFits}
use Rattle.records.proofs.WritesLaws.{fits_write_law}
use Rattle.records.proofs.Laws.{sound_rule_law}
use Rattle.records.specs.Editions.{Given, ranked, known_edition, check_sound, check_edition, check_given}
use Rattle.records.specs.declared.Cause.TheVariants.{Rule as RuleCause, Write as WriteCause, Edition as EditionCause}
use Rattle.records.specs.Verdict.{Check}
use Rattle.records.specs.Verdict.{Pass, Fail}
use Rattle.carrying.specs.Carrying.{put_checks, over_equal, fits_carried, progress_checks, write_checks, step_answer}
use Rattle.carrying.proofs.StepsLaws.{fits_carried_lem, progress_within}
use Rattle.refusals.specs.Rows.{Row, row_at}
use Rattle.refusals.proofs.RowsLaws.{Agrees, rows_then, passing}
use Rattle.refusals.specs.Calls.{OtherEdition, OverEqual, slot_rows, step_rows}
use Rattle.refusals.proofs.TableLaws.{test_row, slot_rows_lem}
use Rattle.refusals.proofs.PlanningLaws.{edition_one, edition_other}

-- all checks of a step: those of the next write only where one is to be made
abbrev pub step_checks : ℕ → List ℕ → List ℕ → Given → ℕ → ℕ → Check
step_checks w t plan given done total =
    or_else (progress_checks w t (length plan) done total) (cond (eqb done total) Pass (write_checks w t given (get_or plan done 0) done))

-- a step's answer where they pass: "finished", or the writes done after one more
abbrev pub step_success : ℕ → ℕ → Told
step_success done total = cond (eqb done total) (success []) (success ((done + 1) ∷ []))

pub step_told_lem : (w : ℕ) (t plan : List ℕ) (given : Given) (done total : ℕ)
    → unless (step_checks w t plan given done total) (step_success done total) ≡ step_answer w t plan given done total
unfolding step_answer
step_told_lem w t plan given done total =
    pick (progress_checks w t (length plan) done total) (eqb done total) (write_checks w t given (get_or plan done 0) done) (success []) (success ((done + 1) ∷ []))
  where
    pick : (p : Check) (b : Bool) (c : Check) (x y : Told) → unless (or_else p (cond b Pass c)) (cond b x y) ≡ unless p (cond b x (unless c y))
    pick (Fail cause spot) b c x y = refl
    pick Pass true c x y = refl
    pick Pass false Pass x y = refl
    pick Pass false (Fail cause spot) x y = refl

module _ (w : ℕ) (t plan : List ℕ) (given : Given) (done total : ℕ) where
  -- the rows of the progress, and those of the next write
  abbrev progress_row : Row
  progress_row = row_at WriteCause ((total < done) ⊎ (length plan < total)) done

  abbrev put_rule_row : Write → Row
  put_rule_row next = row_at RuleCause ((done < total) × ((to : ℕ) × (next ≡ put to)) × (SoundRule w given.rule → ⊥)) 0

  abbrev put_edition_row : Write → Row
  put_edition_row next = row_at EditionCause ((done < total) × ((to : ℕ) × (next ≡ put to)) × OtherEdition given.edition) 0

  abbrev put_rows : Write → List Row
  put_rows next = put_rule_row next ∷ put_edition_row next ∷ []

  abbrev fit_row : Row
  fit_row =
      let next = write_of (get_or plan done 0) in
      row_at WriteCause ((done < total) × (EntryFits w (entries w t) next → ⊥) × (OverEqual w t (ranked w given) next → ⊥)) done

  progress_rows : Agrees (progress_checks w t (length plan) done total) (slot_rows w t ++ (progress_row ∷ []))
  unfolding progress_checks
  progress_rows =
      let both = and_law (leb done total) (leb total (length plan)) in
      rows_then _ _ (slot_rows w t) _ (slot_rows_lem w t)
      (λ e. test_row WriteCause _ done (leb done total && leb total (length plan))
      (λ f bad. let p = both.0 f in
      ⊎_elim (λ more. omega (arith, more, leb-true done total p.0)) (λ more. omega (arith, more, leb-true total (length plan) p.1)) bad)
      (λ f. either f (dec_lt total done) (dec_lt (length plan) total)))
    where
      either : leb done total && leb total (length plan) ≡ false → Dec (total < done) → Dec (length plan < total) → (total < done) ⊎ (length plan < total)
      either f (yes more) d = inl more
      either f (no less) (yes more) = inr more
      either f (no less) (no fewer) =
          absurd (true≢false (sym ((and_law (leb done total) (leb total (length plan))).1 (le-leb done total (omega arith), le-leb total (length plan) (omega arith))) ∙ f))

  -- 5 and 18 look at a rule that is put in, and at none else
  put_rows_lem : done < total → (next : Write) → Agrees (put_checks w given next) (put_rows next)
  unfolding check_given check_sound check_edition
  put_rows_lem h (copy from to) = passing (put_rows (copy from to)) (λ bad. apart bad.1.1, (λ bad. apart bad.1.1, tt))
    where
      apart : {k : ℕ} → copy from to ≡ put k → ⊥
      apart f = let z : ◌≡◌ {A = ℕ} 0 1 = cc in omega arith
  put_rows_lem h (clear to) = passing (put_rows (clear to)) (λ bad. apart bad.1.1, (λ bad. apart bad.1.1, tt))
    where
      apart : {k : ℕ} → clear to ≡ put k → ⊥
      apart f = let z : ◌≡◌ {A = ℕ} 0 1 = cc in omega arith
  put_rows_lem h (put to) =
      let law = sound_rule_law w given.rule in
      rows_then _ _ (put_rule_row (put to) ∷ []) _
      (test_row RuleCause _ 0 (sound_rule w given.rule) (λ e bad. bad.2 (law.0 e)) (λ e. (h, (to, refl), λ good. true≢false (sym (law.1 good) ∙ e))))
      (λ e. test_row EditionCause _ 0 (known_edition given.edition) (λ k bad. edition_one given.edition k bad.2)
      (λ k. (h, (to, refl), edition_other given.edition k)))

  -- a write fits by the test exactly when it fits as document 01 has it or is a put-in over an equal rule
  carried_law : (next : Write) → (fits_carried w t (ranked w given) next ≡ true) ↔ (EntryFits w (entries w t) next ⊎ OverEqual w t (ranked w given) next)
  unfolding over_equal
  carried_law (copy from to) = (
    λ f. inl ((fits_write_law w t (copy from to)).0 f),
    λ o. ⊎_elim (λ good. (fits_write_law w t (copy from to)).1 good) (λ over. absurd (apart over.1)) o,
  )
    where
      apart : {k : ℕ} → copy from to ≡ put k → ⊥
      apart f = let z : ◌≡◌ {A = ℕ} 0 1 = cc in omega arith
  carried_law (clear to) = (
    λ f. inl ((fits_write_law w t (clear to)).0 f),
    λ o. ⊎_elim (λ good. (fits_write_law w t (clear to)).1 good) (λ over. absurd (apart over.1)) o,
  )
    where
      apart : {k : ℕ} → clear to ≡ put k → ⊥
      apart f = let z : ◌≡◌ {A = ℕ} 0 1 = cc in omega arith
  carried_law (put to) = (λ f. forth (decided (fits_write w t (put to))) f, back)
    where
      own : Words
      own = word (record_of w (ranked w given))

      both : (over_equal w t (ranked w given) to ≡ true) ↔ ((ltb to (slots w t) ≡ true) × (equal_rule w (slot_words w t to) own ≡ true))
      both = and_law (ltb to (slots w t)) (equal_rule w (slot_words w t to) own)

      forth : (fits_write w t (put to) ≡ true) ⊎ (fits_write w t (put to) ≡ false) → fits_carried w t (ranked w given) (put to) ≡ true
          → EntryFits w (entries w t) (put to) ⊎ OverEqual w t (ranked w given) (put to)
      forth (inl e) f = inl ((fits_write_law w t (put to)).0 e)
      forth (inr e) f =
          let p = both.0 (sym (ap (λ (b : Bool). b || over_equal w t (ranked w given) to) e) ∙ f) in
          inr (to, refl, ltb-true to (slots w t) p.0, (equal_law w (slot_words w t to) own).0 p.1)

      put_slot_lem : {k : ℕ} → put to ≡ put k → k ≡ to
      put_slot_lem e = cc

      back : EntryFits w (entries w t) (put to) ⊎ OverEqual w t (ranked w given) (put to) → fits_carried w t (ranked w given) (put to) ≡ true
      back (inl good) = fits_carried_lem w t (ranked w given) (put to) ((fits_write_law w t (put to)).1 good)
      back (inr (k, e, inside, equal)) =
          let at : k ≡ to = put_slot_lem e in
          let over = both.1 (
            lt-ltb to (slots w t) (subst (λ (n : ℕ). n < slots w t) at inside),
            (equal_law w (slot_words w t to) own).1 (subst (λ (n : ℕ). EqualRules w (slot_words w t n) own) at equal),
          ) in
          ap (λ (b : Bool). fits_write w t (put to) || b) over ∙ or-true (fits_write w t (put to))

  write_rows : done < total → Agrees (write_checks w t given (get_or plan done 0) done) (put_rows (write_of (get_or plan done 0)) ++ (fit_row ∷ []))
  unfolding write_checks
  write_rows h =
      let next = write_of (get_or plan done 0) in
      rows_then _ _ (put_rows next) _ (put_rows_lem h next)
      (λ e. test_row WriteCause _ done (fits_carried w t (ranked w given) next) (λ f bad. ⊎_elim bad.1 bad.2 ((carried_law next).0 f))
      (λ f. (h, λ good. true≢false (sym ((carried_law next).1 (inl good)) ∙ f), λ over. true≢false (sym ((carried_law next).1 (inr over)) ∙ f))))

  pub step_rows_lem : Agrees (step_checks w t plan given done total) (step_rows w t plan given done total)
  step_rows_lem =
      rows_then _ _ (slot_rows w t ++ (progress_row ∷ [])) next progress_rows
      (λ e. pick (progress_within w t (length plan) done total e).0 (decided (eqb done total)))
    where
      next : List Row
      next = put_rows (write_of (get_or plan done 0)) ++ (fit_row ∷ [])

      pick : done ≤ total → (eqb done total ≡ true) ⊎ (eqb done total ≡ false)
          → Agrees (cond (eqb done total) Pass (write_checks w t given (get_or plan done 0) done)) next
      pick l (inl e) =
          let same = eqb-true done total e in
          rw e (passing next (λ bad. omega (arith, bad.0), (λ bad. omega (arith, bad.0), (λ bad. omega (arith, bad.0), tt))))
      pick l (inr e) = let other = eqb-false done total e in rw e (write_rows (omega (arith, other)))
