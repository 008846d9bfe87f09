-- Laws on a plan whose writes fit in their turn: each call makes one write, and the calls after the last answer "finished".
-- The state after each call is the table with so many writes made.
use Rattle.std.specs.Prelude.{◌≡◌, refl, true, List, [], ◌∷◌, ◌++◌, ℕ, zero, suc, ◌≤◌, ◌<◌, length, get_or, take}
use Rattle.std.proofs.Common.{sym, ap, ap₂, ◌∙◌, add-one, arith, length-append, take_all}
use Rattle.std.proofs.Math.Decide.{dec_le}
use Rattle.std.proofs.Math.ListN.{get_or-append}
use borrow.Author.Tests.{le-leb}
use Rattle.plan_words.specs.PlanWords.{write_of}
use Rattle.records.specs.Checks.{success, slot_checks}
use Rattle.records.specs.Writes.{apply_word, apply_words}
use Rattle.records.specs.Editions.{Given, ranked}
use Rattle.records.specs.Verdict.{Pass}
use Rattle.records.proofs.WritesLaws.{apply_words_next}
use Rattle.carrying.specs.Carrying.{progress_checks, put_checks, fits_carried, write_checks, step_answer, step_table, step_done}
use Rattle.carrying.specs.Calls.{after_calls, call_answer}
use Rattle.carrying.specs.Steps.{StepEnds}
use Rattle.carrying.proofs.StepsLaws.{step_wrote, step_finished}

-- words whose writes fit in their turn, at the front of a plan buffer
pub record InTurn (w : ℕ) (t : List ℕ) (given : Given) (words plan : List ℕ) : Type 0 where
  pub rest : List ℕ
  pub front : plan ≡ words ++ rest
  pub fits : (k : ℕ) → k < length words → fits_carried w (apply_words w t (ranked w given) (take k words)) (ranked w given) (write_of (get_or words k 0)) ≡ true
  pub put : (k : ℕ) → k < length words → put_checks w given (write_of (get_or words k 0)) ≡ Pass
  pub checks : (k : ℕ) → k ≤ length words → slot_checks w (apply_words w t (ranked w given) (take k words)) ≡ Pass

module _ (w : ℕ) (t : List ℕ) (given : Given) (words plan : List ℕ) (turn : InTurn w t given words plan) where
  abbrev at : ℕ → List ℕ
  at k = apply_words w t (ranked w given) (take k words)

  room : length words ≤ length plan
  room = omega (arith, ap length turn.front, length-append words turn.rest)

  word_is : (k : ℕ) → k < length words → get_or plan k 0 ≡ get_or words k 0
  word_is k h = ap (λ (l : List ℕ). get_or l k 0) turn.front ∙ get_or-append words turn.rest 0 k h

  progress_passes : (k : ℕ) → k ≤ length words → Pass ≡ progress_checks w (at k) (length plan) k (length words)
  unfolding progress_checks
  progress_passes k h = rw (turn.checks k h, le-leb k (length words) h, le-leb (length words) (length plan) room)

  write_passes : (k : ℕ) → k < length words → Pass ≡ write_checks w (at k) given (get_or plan k 0) k
  unfolding write_checks
  write_passes k h = rw (word_is k h, turn.put k h, turn.fits k h)

  -- the state after k calls, as long as there are writes
  pub calls_state : (k : ℕ) → k ≤ length words
      → ((after_calls w t plan given (length words) k).table ≡ apply_words w t (ranked w given) (take k words)) × ((after_calls w t plan given (length words) k).done ≡ k)
  calls_state zero h = (refl, refl)
  calls_state (suc k) h = next (calls_state k (omega arith))
    where
      low : k < length words
      low = omega arith

      next : ((after_calls w t plan given (length words) k).table ≡ at k) × ((after_calls w t plan given (length words) k).done ≡ k)
          → ((after_calls w t plan given (length words) (suc k)).table ≡ at (suc k)) × ((after_calls w t plan given (length words) (suc k)).done ≡ suc k)
      next (e, f) =
          let r = step_wrote w (at k) plan given k (length words) (progress_passes k (omega arith)) refl (λ i. omega arith) (write_passes k low) refl in (
            ap₂ (λ (u : List ℕ) (d : ℕ). step_table w u plan given d (length words)) e f
                ∙ (sym r.1 ∙ (ap (apply_word w (at k) (ranked w given)) (word_is k low) ∙ sym (apply_words_next w t (ranked w given) words k low))),
            ap₂ (λ (u : List ℕ) (d : ℕ). step_done w u plan given d (length words)) e f ∙ (sym r.2 ∙ add-one k),
          )

  -- each call makes the next write
  pub calls_write : (k : ℕ) → k < length words → call_answer w t plan given (length words) k ≡ success (suc k ∷ [])
  calls_write k h =
      let s = calls_state k (omega arith) in
      let r = step_wrote w (at k) plan given k (length words) (progress_passes k (omega arith)) refl (λ i. omega arith) (write_passes k h) refl in
      ap₂ (λ (u : List ℕ) (d : ℕ). step_answer w u plan given d (length words)) s.0 s.1
      ∙ (sym r.0 ∙ ap (λ (n : ℕ). success (n ∷ [])) (add-one k))

  take_whole : (k : ℕ) → length words ≤ k → apply_words w t (ranked w given) (take k words) ≡ apply_words w t (ranked w given) words
  take_whole k h = ap (apply_words w t (ranked w given)) (take_all k words h)

  finishes : StepEnds w (apply_words w t (ranked w given) words) plan given (length words) (length words) (success []) (apply_words w t (ranked w given) words) (length words)
  finishes =
      let whole = take_whole (length words) (omega arith) in
      step_finished w (apply_words w t (ranked w given) words) plan given (length words) (length words)
      (rw whole at (progress_passes (length words) (omega arith))) refl refl

  -- after the last write the state stays
  pub calls_rest : (k : ℕ) → length words ≤ k
      → ((after_calls w t plan given (length words) k).table ≡ apply_words w t (ranked w given) words) × ((after_calls w t plan given (length words) k).done ≡ length words)
  calls_rest zero h = let s = calls_state 0 (omega arith) in (s.0 ∙ take_whole 0 h, omega (arith, s.1))
  calls_rest (suc k) h = pick (dec_le (length words) k) (calls_rest k)
    where
      pick : Dec (length words ≤ k)
          → (length words ≤ k
          → ((after_calls w t plan given (length words) k).table ≡ apply_words w t (ranked w given) words) × ((after_calls w t plan given (length words) k).done ≡ length words))
          → ((after_calls w t plan given (length words) (suc k)).table ≡ apply_words w t (ranked w given) words)
          × ((after_calls w t plan given (length words) (suc k)).done ≡ length words)
      pick (yes l) before =
          let s = before l in (
            ap₂ (λ (u : List ℕ) (d : ℕ). step_table w u plan given d (length words)) s.0 s.1 ∙ sym finishes.1,
            ap₂ (λ (u : List ℕ) (d : ℕ). step_done w u plan given d (length words)) s.0 s.1 ∙ sym finishes.2,
          )
      pick (no l) before = let s = calls_state (suc k) (omega arith) in (s.0 ∙ take_whole (suc k) h, s.1 ∙ omega arith)

  -- and the answer is "finished"
  pub calls_finished : (k : ℕ) → length words ≤ k → call_answer w t plan given (length words) k ≡ success []
  calls_finished k h =
      let s = calls_rest k h in ap₂ (λ (u : List ℕ) (d : ℕ). step_answer w u plan given d (length words)) s.0 s.1 ∙ sym finishes.0
