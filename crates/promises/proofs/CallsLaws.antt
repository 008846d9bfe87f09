-- Laws on calls one after the other: a plan under way is in one of the states that the theorems below speak of.
use Rattle.std.specs.Prelude.{◌≡◌, refl, Bool, List, ℕ, suc, ◌≤◌, ◌<◌, length, get_or, take, drop}
use Rattle.std.proofs.Common.{sym, ap, ◌∙◌, subst, add-one, arith, length-take, take-append-drop}
use Rattle.std.proofs.Math.Decide.{dec_lt}
use Rattle.std.proofs.Math.ListN.{get_or-append}
use Rattle.records.specs.Record.{record_words}
use Rattle.records.specs.Widths.{Width}
use Rattle.records.specs.Writes.{apply_word, apply_words}
use Rattle.records.proofs.WritesLaws.{apply_words_next}
use Rattle.records.specs.Editions.{Given, lent_rule, ranked}
use Rattle.records.specs.declared.Rule.{Rule}
use Rattle.carrying.specs.Calls.{after_calls, call_answer, Lent}
use Rattle.carrying.proofs.CallsLaws.{lent_part}
use Rattle.histories.specs.Demand2.{Demand2}
use Rattle.histories.proofs.Demand2Laws.{demand_2_room}
use Rattle.marshalling.specs.Carried.{carry_result}
use Rattle.tcam.specs.declared.carry.Progress.{Progress}
use Rattle.tcam.specs.Carried.{CarryLeft}
use Rattle.tcam.proofs.CarriedLaws.{carry_call, carry_lent}
use Rattle.promises.proofs.FirstDemandLaws.{carry_made, carry_within}
use Rattle.promises.specs.Calls.{wrote_result, finished_result, Carrying, CarriedOut}

-- the writes done so far are made, in their order
pub made_so_far : (w e : ℕ) (t plan rule : List ℕ) (count : ℕ) (u : List ℕ) (progress : Progress) → Carrying w e t plan rule count u progress
    → u ≡ apply_words w t (ranked w (lent_rule w e rule)) (take progress.done plan)
made_so_far w e t plan rule count u progress Carrying.drawn = refl
made_so_far w e t plan rule count u progress (Carrying.wrote v before under n long within after progress' left) =
    let k = before.done in
    let rule' = ranked w (lent_rule w e rule) in
    let told = sym left.told in
    let made = carry_made w e v (take n plan) rule k before.total told in
    let less = carry_within w e v (take n plan) rule k before.total told in
    let same : get_or (take n plan) k 0 ≡ get_or plan k 0 =
    sym (get_or-append (take n plan) (drop n plan) 0 k less) ∙ ap (λ (l : List ℕ). get_or l k 0) (take-append-drop n plan) in
    let next : progress.done ≡ suc k = left.advanced ∙ (made.1 ∙ add-one k) in
    left.table ∙ (made.0
    ∙ (ap (apply_word w v rule') same
    ∙ (ap (λ (x : List ℕ). apply_word w x rule' (get_or plan k 0)) (made_so_far w e t plan rule count v before under)
    ∙ (sym (apply_words_next w t rule' plan k (omega (arith, less, length-take n plan)))
    ∙ ap (λ (d : ℕ). apply_words w t rule' (take d plan)) (sym next)))))

-- the state after k calls
pub record At (w : ℕ) (t plan : List ℕ) (given : Given) (count : ℕ) (u : List ℕ) (progress : Progress) (k : ℕ) : Type 0 where
  pub few : k ≤ count
  pub table : u ≡ (after_calls w t plan given count k).table
  pub done : progress.done ≡ k
  pub total : progress.total ≡ count

module _ (w : ℕ) (u : Bool) (e : ℕ) (t plan lent : List ℕ) (known : Width w) (size : length lent ≡ record_words w) (words : List ℕ) (count : ℕ) (change : List Rule → List Rule)
    (d : Demand2 w u t plan (lent_rule w e lent) words count change) where
  abbrev given : Given
  given = lent_rule w e lent

  -- a call on such a state: its result, and the state that it leaves
  call_at : (s : List ℕ) (progress : Progress) (k : ℕ) → At w t plan given count s progress k → (n result : ℕ) → count ≤ n → (after : List ℕ) (progress' : Progress)
      → CarryLeft w e s (take n plan) lent progress result after progress'
      → (result ≡ carry_result (call_answer w t plan given count k)) × (after ≡ (after_calls w t plan given count (suc k)).table)
      × (progress'.done ≡ (after_calls w t plan given count (suc k)).done) × (progress'.total ≡ count)
  call_at s progress k at n result long after progress' left =
      let part = subst (λ (m : ℕ). Lent plan m (take n plan)) (sym at.total) (lent_part plan count n (demand_2_room d) long) in
      let whole = carry_lent w e s plan (take n plan) lent progress result after progress' part left in
      carry_call w e t plan lent count k result after progress progress' known size (at.done ∙ sym (d.counted k at.few)) at.total
      (subst (λ (v : List ℕ). CarryLeft w e v plan lent progress result after progress') at.table whole)

  -- it makes a write until all are made, and then answers "finished"
  pub result_at : (k : ℕ) → k ≤ count
      → (k < count → carry_result (call_answer w t plan given count k) ≡ wrote_result) × (k ≡ count → carry_result (call_answer w t plan given count k) ≡ finished_result)
  result_at k few = (λ h. ap carry_result (d.writes k h), λ all. ap carry_result (d.finished k (omega arith)))

  pub carrying_at : (s : List ℕ) (progress : Progress) → Carrying w e t plan lent count s progress → (k : ℕ) × At w t plan given count s progress k
  carrying_at s progress Carrying.drawn = (0, record { few = omega arith; table = refl; done = refl; total = refl })
  carrying_at s progress (Carrying.wrote v before under n long within after progress' left) =
      let ih = carrying_at v before under in
      let k = ih.0 in
      let call = call_at v before k ih.1 n wrote_result long s progress left in
      next ih.0 ih.1 call (dec_lt k count)
    where
      next : (k : ℕ) → At w t plan given count v before k
          → (wrote_result ≡ carry_result (call_answer w t plan given count k)) × (s ≡ (after_calls w t plan given count (suc k)).table)
          × (progress.done ≡ (after_calls w t plan given count (suc k)).done) × (progress.total ≡ count)
          → Dec (k < count) → (k : ℕ) × At w t plan given count s progress k
      next k at call (yes h) = (suc k, record { few = h; table = call.1; done = call.2 ∙ d.counted (suc k) h; total = call.3 })
      next k at call (no h) =
          let all : k ≡ count = omega (arith, at.few) in
          let other : wrote_result ≡ finished_result = call.0 ∙ (result_at k at.few).1 all in
          absurd (omega (arith, other))

  -- carried out in full
  pub carried_at : (v : List ℕ) → CarriedOut w e t plan lent count v → v ≡ (after_calls w t plan given count count).table
  carried_at v full =
      let state = carrying_at v full.0 full.1 in
      let all : state.0 ≡ count = sym state.1.done ∙ full.2 in
      state.1.table ∙ ap (λ (k : ℕ). (after_calls w t plan given count k).table) all

  pub goes_on_at : (v : List ℕ) (progress : Progress) → Carrying w e t plan lent count v progress
      → (n result : ℕ) → count ≤ n → (after : List ℕ) (progress' : Progress) → CarryLeft w e v (take n plan) lent progress result after progress'
      → (progress.done < count → result ≡ wrote_result) × (progress.done ≡ count → result ≡ finished_result)
  goes_on_at v progress under n result long after progress' left =
      let state = carrying_at v progress under in
      let k = state.0 in
      let at = state.1 in
      let call = call_at v progress k at n result long after progress' left in (
        λ h. call.0 ∙ (result_at k at.few).0 (omega (arith, at.done)),
        λ all. call.0 ∙ (result_at k at.few).1 (sym at.done ∙ all),
      )
