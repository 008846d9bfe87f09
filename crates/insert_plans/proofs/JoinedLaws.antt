-- Laws that join a table's numbers with its layout: window ends, in both directions.
-- So what the planner finds in numbers is the choice of the layout.
use Rattle.std.specs.Prelude.{◌≡◌, refl, Bool, not, cond, List, ◌++◌, reverse, ℕ, suc, ◌-◌, ◌<◌, min, eqb, length, get_or}
use Rattle.std.proofs.Math.Path.{sym, ap}
use Rattle.std.proofs.Common.{ap₂, ◌∙◌, arith}
use Rattle.std.proofs.Math.Bool.{true, false}
use Rattle.std.proofs.lemmas.List.{length-reverse}
use Rattle.std.proofs.Math.ListN.{get_or-append}
use Rattle.search.specs.Search.{least}
use Rattle.ternary.specs.Pattern.{Words}
use Rattle.layout.specs.Order.{swapped}
use Rattle.layout.specs.Cost.{window_end}
use Rattle.layout.specs.Mirror.{mirror}
use Rattle.layout.specs.Minimum.{minimum}
use Rattle.layout.proofs.MirrorLaws.{get_d_reverse}
use Rattle.layout.proofs.InPlaceLaws.{window_end_by}
use Rattle.records.specs.Record.{slot_words, empty, listed}
use Rattle.records.specs.Order.{slots}
use Rattle.records.specs.Entries.{vacant, entries, entry_occupied, entry_misordered}
use Rattle.records.proofs.RulesLaws.{length_listed, word_listed}
use Rattle.records.proofs.EntriesLaws.{entries_length, occupied_at_lem, misordered_at}
use Rattle.costs.specs.Costs.{cost_of, position_cost, SolvedFrom}
use Rattle.costs.specs.Ends.{Ends}
use Rattle.windows.specs.Windows.{misplaced_at, window_end_at, end_at}
use Rattle.insert_plans.specs.Joined.{Costed}

-- along one direction: a list of entries that has, at each position, the entry of the slot that the table's numbers speak of
along : (w : ℕ) (u : Bool) (t : List ℕ) (up : Bool) (v : List (List ℕ)) (misplaced : List ℕ → List ℕ → Bool) (slot_of : ℕ → ℕ)
    → length v ≡ slots w t
    → ((p : ℕ) → p < slots w t → entry_occupied w (get_or v p (vacant w)) ≡ not (empty w (slot_words w t (slot_of p))))
    → ((p : ℕ) → p < slots w t → end_at w u t up p ≡ cond (empty w (slot_words w t (slot_of p))) 0 (window_end_at w u t up p))
    → ((p q : ℕ) → p < q → q < slots w t → misplaced_at w u t up p q ≡ misplaced (get_or v q (vacant w)) (get_or v p (vacant w)))
    → (ends : List ℕ) → ((p : ℕ) → p < slots w t → get_or ends p 0 ≡ end_at w u t up p)
    → Ends (vacant w) (entry_occupied w) misplaced v ends
unfolding window_end_at
along w u t up v misplaced slot_of n occupied number test ends e p h =
    e p (omega arith)
    ∙ (number p (omega arith)
    ∙ (turn (empty w (slot_words w t (slot_of p)))
    ∙ ap₂ (λ (o : Bool) (m : ℕ). cond o m 0) (sym (occupied p (omega arith))) window))
  where
    turn : (b : Bool) → cond b 0 (window_end_at w u t up p) ≡ cond (not b) (window_end_at w u t up p) 0
    turn true = refl
    turn false = refl

    window : window_end_at w u t up p ≡ window_end (vacant w) misplaced v p
    window =
        ap (λ (k : ℕ). min (suc (least (misplaced_at w u t up p) (k - suc p) (suc p))) k) (sym n)
        ∙ window_end_by (vacant w) misplaced v p (misplaced_at w u t up p) (λ q l r. test p q l (omega arith))

module _ (w : ℕ) (u : Bool) (t : List ℕ) (ends : List ℕ) where
  pub ends_down : ((p : ℕ) → p < slots w t → get_or ends p 0 ≡ end_at w u t false p)
      → Ends (vacant w) (entry_occupied w) (entry_misordered w u) (entries w t) ends
  unfolding end_at misplaced_at
  ends_down =
      along w u t false (entries w t) (entry_misordered w u) (λ (p : ℕ). p) (entries_length w t) (occupied_at_lem w t) (λ p h. refl)
      (λ p q l h. sym (misordered_at w u t q p h (omega arith))) ends

  entry_up : (p : ℕ) → p < slots w t → get_or (reverse (entries w t)) p (vacant w) ≡ get_or (entries w t) (mirror (slots w t) p) (vacant w)
  entry_up p h =
      get_d_reverse (entries w t) (vacant w) p (let n = entries_length w t in omega arith)
      ∙ ap (λ (k : ℕ). get_or (entries w t) (mirror k p) (vacant w)) (entries_length w t)

  pub ends_up : ((p : ℕ) → p < slots w t → get_or ends p 0 ≡ end_at w u t true p)
      → Ends (vacant w) (entry_occupied w) (swapped (entry_misordered w u)) (reverse (entries w t)) ends
  unfolding end_at misplaced_at
  ends_up =
      along w u t true (reverse (entries w t)) (swapped (entry_misordered w u)) (mirror (slots w t)) (length-reverse (entries w t) ∙ entries_length w t)
      (λ p h. ap (entry_occupied w) (entry_up p h) ∙ occupied_at_lem w t (mirror (slots w t) p) (omega arith)) (λ p h. refl)
      (λ p q l h. sym (misordered_at w u t (mirror (slots w t) p) (mirror (slots w t) q) (omega arith) (omega arith))
      ∙ sym (ap₂ (entry_misordered w u) (entry_up p (omega arith)) (entry_up q h))) ends

-- the numbers as the code leaves them: in front of whatever stood in the buffer
pub numbers_front : (n : ℕ) (f : Words) (rest : List ℕ) (p : ℕ) → p < n → get_or (listed n f ++ rest) p 0 ≡ f p
numbers_front n f rest p h = get_or-append (listed n f) rest 0 p (let k = length_listed n f in omega arith) ∙ word_listed n f p h

-- the costs as the code finds them, from numbers in front of whatever stood in the buffer
pub costed : (w : ℕ) (u : Bool) (t : List ℕ) (up : Bool) (ends rest costs : List ℕ) → ends ≡ listed (slots w t) (end_at w u t up) ++ rest
    → SolvedFrom ends (slots w t) 0 (cost_of costs) → Costed w u t up costs
unfolding position_cost
costed w u t up ends rest costs e solved p l h =
    let same : get_or ends p 0 ≡ get_or (listed (slots w t) (end_at w u t up)) p 0 =
    ap (λ (x : List ℕ). get_or x p 0) e
    ∙ (numbers_front (slots w t) (end_at w u t up) rest p h ∙ sym (word_listed (slots w t) (end_at w u t up) p h)) in
    solved p l h
    ∙ ap (λ (x : ℕ). cond (eqb x 0) 0 (suc (minimum (cost_of costs) (slots w t) (x - suc p) (suc p)))) same

pub ends_listed : (w : ℕ) (u : Bool) (t : List ℕ) (up : Bool) (p : ℕ) → p < slots w t → get_or (listed (slots w t) (end_at w u t up)) p 0 ≡ end_at w u t up p
ends_listed w u t up p h = word_listed (slots w t) (end_at w u t up) p h
