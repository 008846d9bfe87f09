-- Laws on lists of rows: a check and its rows agree, one after the other as the call makes them.
use Rattle.std.specs.Prelude.{◌≡◌, refl, Bool, cond, ◌↔◌, ◌⊎◌, List, [], ◌∷◌, ◌++◌, ℕ, ◌<◌, eqb, get_or}
use Rattle.std.proofs.Common.{sym, ap, ap₂, ◌∙◌, subst, true≢false, inl, inr, ⊎_elim, arith}
use Prim.{tt}
use Rattle.std.proofs.Math.Decide.{dec_lt}
use Rattle.records.specs.Checks.{Told, cause_number, success, refusal, unless, or_else}
use Rattle.records.proofs.Laws.{cause_number_once, cause_not_zero}
use Rattle.records.specs.declared.Cause.{Cause}
use Rattle.records.specs.Verdict.{Check}
use Rattle.records.specs.Verdict.{Pass, Fail}
use Rattle.refusals.specs.Rows.{Row, Lowest, Declines, Accepts, AnsweredBy}

-- A check and its rows agree: it fails with a cause and a spot exactly when the rows decline so, and passes exactly when no condition holds
pub record Agrees (check : Check) (rows : List Row) : Type 0 where
  pub fails : (cause : Cause) (spot : ℕ) → (check ≡ Fail cause spot) ↔ Declines rows cause spot
  pub passes : (check ≡ Pass) ↔ Accepts rows

pub pass_not_fail : {cause : Cause} {spot : ℕ} → Pass ≡ Fail cause spot → ⊥
pass_not_fail e = let z : ◌≡◌ {A = ℕ} 0 1 = cc in omega arith

-- One row: where the check passes its condition does not hold, where it fails the condition holds with the row's cause and spot, and no two numbers
-- are the spot.
pub one_row : (row : Row) (check : Check) → (check ≡ Pass → row.condition → ⊥)
    → ((cause : Cause) (spot : ℕ) → check ≡ Fail cause spot → (row.cause ≡ cause) × row.condition × row.spot spot)
    → ((x y : ℕ) → row.spot x → row.spot y → x ≡ y) → Agrees check (row ∷ [])
one_row row Pass pass fail once = record {
  fails = λ cause spot. (
    λ e. absurd (pass_not_fail e),
    λ d. absurd (⊎_elim (λ own. pass refl own.1) (λ more. more.1) d),
  );
  passes = (λ e. (pass refl, tt), λ a. refl);
}
one_row row (Fail c s) pass fail once = record {
  fails = λ cause spot. (
    λ e. inl (fail cause spot e),
    λ d. let own = fail c s refl in
        ⊎_elim
        (λ here. let same : c ≡ cause = sym own.0 ∙ here.0 in
        let at : s ≡ spot = once s spot own.2 here.2 in
        ap (λ (x : Cause). Fail x s) same ∙ ap (Fail cause) at)
        (λ more. absurd more.1) d,
  );
  passes = (λ e. absurd (pass_not_fail (sym e)), λ a. absurd (a.0 (fail c s refl).1));
}

-- where no condition holds, nothing declines
pub passing : (rows : List Row) → Accepts rows → Agrees Pass rows
passing rows a = record { fails = λ cause spot. (λ e. absurd (pass_not_fail e), λ d. absurd (never rows cause spot a d)); passes = (λ e. a, λ b. refl) }
  where
    never : (rows : List Row) (cause : Cause) (spot : ℕ) → Accepts rows → Declines rows cause spot → ⊥
    never [] cause spot a d = d
    never (row ∷ rows) cause spot a d = ⊎_elim (λ own. a.0 own.1) (λ later. never rows cause spot a.1 later.1) d

-- a list behind another
accepts_both : (rows more : List Row) → Accepts (rows ++ more) ↔ (Accepts rows × Accepts more)
accepts_both [] more = (λ a. (tt, a), λ p. p.1)
accepts_both (row ∷ rows) more =
    let l = accepts_both rows more in
    (λ a. let p = l.0 a.1 in ((a.0, p.0), p.1), λ p. (p.0.0, l.1 (p.0.1, p.1)))

declines_either : (rows more : List Row) (cause : Cause) (spot : ℕ)
    → Declines (rows ++ more) cause spot ↔ (Declines rows cause spot ⊎ (Accepts rows × Declines more cause spot))
declines_either [] more cause spot = (λ d. inr (tt, d), λ p. ⊎_elim (λ d. absurd d) (λ d. d.1) p)
declines_either (row ∷ rows) more cause spot =
    let l = declines_either rows more cause spot in (
      λ d. ⊎_elim (λ own. inl (inl own))
          (λ later. ⊎_elim (λ early. inl (inr (later.0, early))) (λ late. inr ((later.0, late.0), late.1)) (l.0 later.1)) d,
      λ p. ⊎_elim
          (λ early. ⊎_elim (λ own. inl own) (λ later. inr (later.0, l.1 (inl later.1))) early)
          (λ late. inr (late.0.0, l.1 (inr (late.0.1, late.1)))) p,
    )

-- a row that holds behind rows that do not is the one by which the call declines, and it does not accept
pub first_row : (before : List Row) (row : Row) (after : List Row) → Accepts before → row.condition
    → (cause : Cause) (spot : ℕ) → Declines (before ++ (row ∷ after)) cause spot → row.cause ≡ cause
first_row [] row after none holds cause spot (inl d) = d.0
first_row [] row after none holds cause spot (inr d) = absurd (d.0 holds)
first_row (other ∷ before) row after none holds cause spot (inl d) = absurd (none.0 d.1)
first_row (other ∷ before) row after none holds cause spot (inr d) = first_row before row after none.1 holds cause spot d.1

pub not_accepted : (before : List Row) (row : Row) (after : List Row) → row.condition → Accepts (before ++ (row ∷ after)) → ⊥
not_accepted before row after holds accepts = ((accepts_both before (row ∷ after)).0 accepts).1.0 holds

-- checks one after the other: of the second no more is asked than what it says where the first passes
pub rows_then : (x y : Check) (rows more : List Row) → Agrees x rows → (x ≡ Pass → Agrees y more) → Agrees (or_else x y) (rows ++ more)
rows_then Pass y rows more first next =
    let second = next refl in record {
      fails = λ cause spot. (
        λ e. (declines_either rows more cause spot).1 (inr (first.passes.0 refl, (second.fails cause spot).0 e)),
        λ d. ⊎_elim (λ early. absurd (pass_not_fail ((first.fails cause spot).1 early))) (λ late. (second.fails cause spot).1 late.1)
            ((declines_either rows more cause spot).0 d),
      );
      passes = (
        λ e. (accepts_both rows more).1 (first.passes.0 refl, second.passes.0 e),
        λ a. second.passes.1 ((accepts_both rows more).0 a).1,
      );
    }
rows_then (Fail c s) y rows more first next = record {
  fails = λ cause spot. (
    λ e. (declines_either rows more cause spot).1 (inl ((first.fails cause spot).0 e)),
    λ d. ⊎_elim (λ early. (first.fails cause spot).1 early) (λ late. absurd (pass_not_fail (sym (first.passes.1 late.0))))
        ((declines_either rows more cause spot).0 d),
  );
  passes = (
    λ e. absurd (pass_not_fail (sym e)),
    λ a. absurd (pass_not_fail (sym (first.passes.1 ((accepts_both rows more).0 a).0))),
  );
}

-- no success is a refusal
pub no_refusal : (values : List ℕ) (cause : Cause) (spot : ℕ) → success values ≡ refusal cause spot → ⊥
no_refusal values cause spot e = true≢false (ap (λ (t : Told). eqb t.number 0) e ∙ cause_not_zero cause)

-- one refusal has one cause and one spot
pub refusal_once : (c d : Cause) (s u : ℕ) → refusal c s ≡ refusal d u → (c ≡ d) × (s ≡ u)
refusal_once c d s u e = (cause_number_once c d (ap (λ (t : Told). t.number) e), ap (λ (t : Told). get_or t.values 0 0) e)

-- an answer behind checks that agree with their rows
pub answered : (checks : Check) (rows : List Row) (values : List ℕ) → Agrees checks rows → AnsweredBy rows (unless checks (success values))
answered Pass rows values agree = record {
  either = inl (values, refl);
  declined = λ cause spot. (λ e. absurd (no_refusal values cause spot e), λ d. absurd (pass_not_fail ((agree.fails cause spot).1 d)));
  accepted = (λ e. agree.passes.0 refl, λ a. refl);
}
answered (Fail c s) rows values agree = record {
  either = inr (c, s, refl);
  declined = λ cause spot. (
    λ e. let same = refusal_once c cause s spot e in (agree.fails cause spot).0 (ap₂ Fail same.0 same.1),
    λ d. ap (λ (check : Check). unless check (success values)) ((agree.fails cause spot).1 d),
  );
  accepted = (
    λ e. absurd (true≢false (sym (ap (λ (n : ℕ). eqb n 0) e) ∙ cause_not_zero c)),
    λ a. absurd (pass_not_fail (sym (agree.passes.1 a))),
  );
}

-- an answer whose success has these values: rows do not ask for them
abbrev pub with_values : Told → List ℕ → Told
with_values told values = record { number = told.number; values = cond (eqb told.number 0) values told.values }

pub values_answered : (rows : List Row) (told : Told) (values : List ℕ) → AnsweredBy rows told → AnsweredBy rows (with_values told values)
values_answered rows told values answer = ⊎_elim went declined answer.either
  where
    went : (own : List ℕ) × (told ≡ success own) → AnsweredBy rows (with_values told values)
    went w =
        let own = subst (AnsweredBy rows) w.1 answer in
        subst (λ (x : Told). AnsweredBy rows (with_values x values)) (sym w.1) (record {
          either = inl (values, refl);
          declined = λ cause spot. (λ e. absurd (no_refusal values cause spot e), λ d. absurd (no_refusal w.0 cause spot ((own.declined cause spot).1 d)));
          accepted = own.accepted;
        })

    declined : (cause : Cause) × (spot : ℕ) × (told ≡ refusal cause spot) → AnsweredBy rows (with_values told values)
    declined w =
        let kept : refusal w.0 w.1 ≡ with_values (refusal w.0 w.1) values
        = ap (λ (b : Bool). record { number = cause_number w.0; values = cond b values (w.1 ∷ []) }) (sym (cause_not_zero w.0)) in
        subst (AnsweredBy rows) (w.2 ∙ (kept ∙ ap (λ (x : Told). with_values x values) (sym w.2))) answer

-- no two slots are the lowest that something is wrong with
pub lowest_once : (n : ℕ) (Wrong : ℕ → Type 0) (x y : ℕ) → Lowest n Wrong x → Lowest n Wrong y → x ≡ y
lowest_once n Wrong x y a b = pick (dec_lt x y) (dec_lt y x)
  where
    pick : Dec (x < y) → Dec (y < x) → x ≡ y
    pick (yes l) d = absurd (b.2 x l a.1)
    pick (no l) (yes m) = absurd (a.2 y m b.1)
    pick (no l) (no m) = omega arith

pub number_once : (n x y : ℕ) → x ≡ n → y ≡ n → x ≡ y
number_once n x y e f = e ∙ sym f
