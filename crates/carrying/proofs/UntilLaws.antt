-- Laws on steps until one does not write: what holds of the table and the writes done on the way, and what they come to.
-- The state is that after some calls; once a step does not write, it is that after any number more.
use Rattle.std.specs.Prelude.{◌≡◌, refl, Bool, true, false, cond, ◌&&◌, ◌⊎◌, List, ℕ, ◌+◌, ◌-◌, ◌≤◌, ◌<◌, ltb, length}
use Rattle.std.proofs.Common.{sym, ap, ap₂, ◌∙◌, subst₂, true≢false, arith, lt-ltb, le-ltb, ltb-true, ltb-false, eq-eqb}
use Rattle.std.proofs.Math.Bool.{and-false}
use Rattle.std.proofs.lemmas.Bool.{false≢true}
use Rattle.std.proofs.Math.Logic.◌⊎◌.{inl, inr}
use Rattle.std.proofs.Math.Decide.{dec_lt}
use Rattle.search.specs.SearchLaws.{decided, and_left, and_right}
use Rattle.records.specs.Checks.{passes}
use Rattle.records.specs.Editions.{Given}
use Rattle.carrying.specs.Carrying.{progress_checks, step_answer, step_writes, step_table, step_done}
use Rattle.carrying.specs.Calls.{State, after_calls, call_answer}
use Rattle.carrying.proofs.StepsLaws.{step_still, step_moved}
use Rattle.carrying.proofs.CallsLaws.{call_more, calls_still}

-- the table and the writes done after some calls, all of which wrote, or after which a step does not write
pub record Under (w : ℕ) (t plan : List ℕ) (given : Given) (total : ℕ) (table : List ℕ) (done : ℕ) (wrote : Bool) : Type 0 where
  pub calls : ℕ
  pub few : calls ≤ total
  pub state_table : table ≡ (after_calls w t plan given total calls).table
  pub state_done : done ≡ (after_calls w t plan given total calls).done
  pub going : wrote ≡ true → calls ≡ done
  pub still : wrote ≡ false → step_writes w table plan given done total ≡ false

module _ (w : ℕ) (t plan : List ℕ) (given : Given) (total : ℕ) where
  pub under_start : Under w t plan given total t 0 true
  under_start = record { calls = 0; few = omega arith; state_table = refl; state_done = refl; going = λ e. refl; still = λ e. absurd (true≢false e) }

  pub under_next : {table table' : List ℕ} {done next : ℕ} → Under w t plan given total table done true → done < total
      → next ≡ step_done w table plan given done total → table' ≡ step_table w table plan given done total → Under w t plan given total table' next (ltb done next)
  under_next {table} {table'} {done} {next} u l e f = pick (dec_lt done next)
    where
      moved : ((done < next) → (step_writes w table plan given done total ≡ true) × (next ≡ done + 1))
          × ((next ≤ done) → step_writes w table plan given done total ≡ false)
      moved = step_moved w table plan given done total next e

      pick : Dec (done < next) → Under w t plan given total table' next (ltb done next)
      pick (yes h) =
          let more = call_more w t plan given total u.calls in
          let at = u.going refl in
          record {
            calls = u.calls + 1;
            few = omega (arith, at);
            state_table = f ∙ (ap₂ (λ (x : List ℕ) (d : ℕ). step_table w x plan given d total) u.state_table u.state_done ∙ sym (ap (λ (s : State). s.table) more));
            state_done = e ∙ (ap₂ (λ (x : List ℕ) (d : ℕ). step_done w x plan given d total) u.state_table u.state_done ∙ sym (ap (λ (s : State). s.done) more));
            going = λ b. omega (arith, at, (moved.0 h).1);
            still = λ b. absurd (true≢false (sym (lt-ltb done next h) ∙ b));
          }
      pick (no h) =
          let quiet = moved.1 (omega arith) in
          let same = step_still w table plan given done total quiet in
          record {
            calls = u.calls;
            few = u.few;
            state_table = f ∙ (same.0 ∙ u.state_table);
            state_done = e ∙ (same.1 ∙ u.state_done);
            going = λ b. absurd (false≢true (sym (le-ltb done next (omega arith)) ∙ b));
            still = λ b. subst₂ (λ (x : List ℕ) (d : ℕ). step_writes w x plan given d total ≡ false) (sym (f ∙ same.0)) (sym (e ∙ same.1)) quiet;
          }

  -- each turn makes a write, or is the last
  pub under_less : (table : List ℕ) (done next : ℕ) (wrote : Bool) → wrote && ltb done total ≡ true → next ≡ step_done w table plan given done total
      → cond (ltb done next) 1 0 + (total - next) < cond wrote 1 0 + (total - done)
  under_less table done next wrote b e =
      let low = ltb-true done total (and_right wrote (ltb done total) b) in
      let one : ◌≡◌ {A = ℕ} (cond wrote 1 0) 1 = ap (λ (x : Bool). cond x 1 0) (and_left wrote (ltb done total) b) in
      pick low one (dec_lt done next)
    where
      moved : ((done < next) → (step_writes w table plan given done total ≡ true) × (next ≡ done + 1))
          × ((next ≤ done) → step_writes w table plan given done total ≡ false)
      moved = step_moved w table plan given done total next e

      pick : done < total → ◌≡◌ {A = ℕ} (cond wrote 1 0) 1 → Dec (done < next) → cond (ltb done next) 1 0 + (total - next) < cond wrote 1 0 + (total - done)
      pick low one (yes h) = rw (lt-ltb done next h, one) (omega (arith, (moved.0 h).1))
      pick low one (no h) =
          let same : next ≡ done = e ∙ (step_still w table plan given done total (moved.1 (omega arith))).1 in
          rw (le-ltb done next (omega arith), one) (omega arith)

  -- no step writes when all writes are done
  all_done : (table : List ℕ) (done : ℕ) → done ≡ total → step_writes w table plan given done total ≡ false
  unfolding step_writes
  all_done table done e = rw (eq-eqb done total e) (and-false (passes (progress_checks w table (length plan) done total)))

  pub under_end : {table : List ℕ} {done : ℕ} {wrote : Bool} → Under w t plan given total table done wrote → wrote && ltb done total ≡ false
      → (step_answer w table plan given done total ≡ call_answer w t plan given total total)
      × (step_table w table plan given done total ≡ (after_calls w t plan given total total).table)
  under_end {table} {done} {wrote} u e = ends (quiet (decided wrote)) (there (decided wrote))
    where
      last : wrote ≡ true → done ≡ total
      last b = omega (arith, u.few, u.going b, ltb-false done total (sym (ap (λ (x : Bool). x && ltb done total) b) ∙ e))

      quiet : (wrote ≡ true) ⊎ (wrote ≡ false) → step_writes w table plan given done total ≡ false
      quiet (inl b) = all_done table done (last b)
      quiet (inr b) = u.still b

      there : (wrote ≡ true) ⊎ (wrote ≡ false) → after_calls w t plan given total total ≡ after_calls w t plan given total u.calls
      there (inl b) = let n : total ≡ u.calls = omega (arith, u.going b, last b) in ap (after_calls w t plan given total) n
      there (inr b) =
          let n : total ≡ u.calls + (total - u.calls) = omega (arith, u.few) in
          ap (after_calls w t plan given total) n
          ∙ calls_still w t plan given total u.calls (total - u.calls)
          (subst₂ (λ (x : List ℕ) (d : ℕ). step_writes w x plan given d total ≡ false) u.state_table u.state_done (u.still b))

      ends : step_writes w table plan given done total ≡ false → after_calls w t plan given total total ≡ after_calls w t plan given total u.calls
          → (step_answer w table plan given done total ≡ call_answer w t plan given total total)
          × (step_table w table plan given done total ≡ (after_calls w t plan given total total).table)
      ends q s =
          let tables = u.state_table ∙ sym (ap (λ (x : State). x.table) s) in
          let dones = u.state_done ∙ sym (ap (λ (x : State). x.done) s) in
          (ap₂ (λ (x : List ℕ) (d : ℕ). step_answer w x plan given d total) tables dones, (step_still w table plan given done total q).0 ∙ tables)
