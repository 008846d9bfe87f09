-- End theorems on numbers and layouts: the choice that is made in numbers is the layout's.
-- So a plan written from numbers is the plan of the layout that they were taken from.
use Rattle.std.specs.Prelude.{◌≡◌, refl, Bool, List, [], ◌∷◌, map, reverse, eqb}
use Rattle.std.proofs.Math.Path.{sym, ap}
use Rattle.std.proofs.Common.{◌∙◌, map-id}
use Rattle.std.proofs.lemmas.List.{map-append}
use Prim.Native.Nat.{ℕ, ◌+◌, ◌-◌, ◌≤◌, ◌<◌, min}
use native.Mathlib.Omega.{arith}
use Rattle.std.proofs.Math.Decide.{dec_le}
use Rattle.std.proofs.Math.ListN.{length, length-reverse}
use Rattle.search.specs.SearchLaws.{least_cong}
use Rattle.layout.specs.Order.{swapped}
use Rattle.layout.specs.Minimum.{minimum, lowest_at}
use Rattle.layout.specs.Cost.{slot_cost}
use Rattle.layout.specs.Mirror.{mirror}
use Rattle.layout.specs.Write.{moves, put}
use Rattle.layout.specs.Plan.{Choice, down_cost, up_cost, down_chain, up_chain, best_down, best_up, slot_down, slot_up, choose, writes}
use Rattle.layout.proofs.MinimumLaws.{minimum_cong}
use Rattle.layout.proofs.MirrorLaws.{mirror_twice}
use Rattle.layout.proofs.ChooseLaws.{choose_down, choose_up}
use Rattle.plan_words.specs.PlanWords.{write_word}
use Rattle.positions.specs.Positions.{slot_at}
use Rattle.costs.specs.Costs.{SolvedFrom}
use Rattle.costs.specs.Ends.{Ends}
use Rattle.costs.proofs.EndsLaws.{costs_settled}
use Rattle.planner.specs.Choice.{best_below, best_above, choice_of, choice_words}
use Rattle.planner.proofs.WalkedLaws as walked
use Rattle.planner.specs.declared.SlotRange.{SlotRange}
use Rattle.planner.specs.declared.PositionChoice.{PositionChoice}
use Rattle.planner.proofs.ChoiceLaws.{preferred_down, preferred_up, best_at}
use Rattle.planner.proofs.MirroredLaws.{minimum_mirror, highest_mirror}
use Rattle.planner.specs.Agree.{Agrees, range_of, Emits}

-- where a choice in numbers gives the layout's moves, the whole plan's words are those of the layout's writes, the new rule last
pub plan_law : {c : ℕ → ℕ} {n : ℕ} {choice : PositionChoice} {planned : Choice} → Emits c n choice planned → choice_words c n choice ≡ map write_word (writes planned)
unfolding choice_words
plan_law {planned = planned} e =
    rw (e.words, e.slot) (sym (map-append write_word (moves planned.slot planned.chain) (put planned.slot ∷ [])))

lowest_cong : {c d : ℕ → ℕ} (top k i : ℕ) → ((j : ℕ) → i ≤ j → j < i + k → c j ≡ d j) → lowest_at c top k i ≡ lowest_at d top k i
unfolding lowest_at
lowest_cong {d = d} top k i h =
    rw (minimum_cong top k i h) (least_cong k i (λ j l r. ap (λ (x : ℕ). eqb x (minimum d top k i)) (h j l r)))

-- in either direction, from the position found: the layout is the one whose windows lie after their positions
emits : {S : Type 0} (empty : S) (occupied : S → Bool) (misplaced : S → S → Bool) (u : List S) (n : ℕ) → length u ≡ n → (c : ℕ → ℕ)
    → ((p : ℕ) → p < n → c p ≡ slot_cost empty occupied misplaced n u p) → (choice : PositionChoice) (planned : Choice) → choice.cost < n
    → (choice.position < n) × (c choice.position ≡ choice.cost) → slot_at n choice.up choice.position ≡ planned.slot
    → planned.chain ≡ map (slot_at n choice.up) (down_chain empty occupied misplaced u choice.position) → Emits c n choice planned
unfolding down_cost
emits empty occupied misplaced u n size c costs choice planned h at slot chain =
    let costs' : (p : ℕ) → p < length u → c p ≡ down_cost empty occupied misplaced u p = λ p b. rw size (costs p (omega arith)) in
    let s = choice.position in
    record {
      slot = slot;
      stays = rw (← size, ← at.1) (walked.stays empty occupied misplaced u c costs' s (omega (arith, at.0)) (omega (arith, at.1)));
      words = rw (← slot, chain, ← size, ← at.1) (walked.words empty occupied misplaced u c costs' s (omega (arith, at.0)) (omega (arith, at.1)) choice.up);
    }

module _ {S : Type 0} (empty : S) (occupied : S → Bool) (misordered : S → S → Bool) (t : List S) where
  -- going up the chain is that of the reversed layout
  up_chain_lem : (p : ℕ) → p < length t
      → up_chain empty occupied misordered t (mirror (length t) p)
      ≡ map (mirror (length t)) (down_chain empty occupied (swapped misordered) (reverse t) p)
  unfolding up_chain up_cost down_chain down_cost
  up_chain_lem p b = rw (mirror_twice (length t) p b, length-reverse t)

  module _ (down up : ℕ → ℕ) (down_costs : (p : ℕ) → p < length t → down p ≡ slot_cost empty occupied misordered (length t) t p)
      (up_costs : (p : ℕ) → p < length t → up p ≡ slot_cost empty occupied (swapped misordered) (length t) (reverse t) p) where
    below_cost : (r : SlotRange) → (best_below down (length t) r).cost ≡ best_down empty occupied misordered t (range_of r)
    unfolding best_down down_cost
    below_cost r = minimum_cong (length t) (min r.to (length t) - r.from) r.from (λ j l u. down_costs j (omega arith))

    below_slot : (r : SlotRange) → (best_below down (length t) r).position ≡ slot_down empty occupied misordered t (range_of r)
    unfolding slot_down down_cost
    below_slot r = lowest_cong (length t) (min r.to (length t) - r.from) r.from (λ j l u. down_costs j (omega arith))

    above_cost : (r : SlotRange) → (best_above up (length t) r).cost ≡ best_up empty occupied misordered t (range_of r)
    unfolding best_up up_cost
    above_cost r =
        let n = length t in
        let e : n - min r.to n ≡ n - r.to = omega arith in
        minimum_cong n ((n - r.from) - (n - r.to)) (n - r.to) (λ j l u. up_costs j (omega arith))
        ∙ sym (rw e at (minimum_mirror (slot_cost empty occupied (swapped misordered) n (reverse t)) n r.from (min r.to n) (omega arith) n))

    above_slot : (r : SlotRange) → best_up empty occupied misordered t (range_of r) < length t
        → mirror (length t) (best_above up (length t) r).position ≡ slot_up empty occupied misordered t (range_of r)
    unfolding best_up slot_up up_cost
    above_slot r h =
        let n = length t in
        let c = slot_cost empty occupied (swapped misordered) n (reverse t) in
        let e : n - min r.to n ≡ n - r.to = omega arith in
        ap (mirror n) (lowest_cong n ((n - r.from) - (n - r.to)) (n - r.to) (λ j l u. up_costs j (omega arith)))
        ∙ (rw e at (highest_mirror c n r.from (min r.to n) (omega arith) n (rw (minimum_mirror c n r.from (min r.to n) (omega arith) n) at h)))

    pub choice_law : (below above : SlotRange)
        → Agrees (length t) down up (choice_of down up (length t) below above) (choose empty occupied misordered t (range_of below) (range_of above))
    choice_law below above = pick (dec_le (best_down empty occupied misordered t (range_of below)) (best_up empty occupied misordered t (range_of above)))
      where
        n : ℕ
        n = length t

        pick : Dec (best_down empty occupied misordered t (range_of below) ≤ best_up empty occupied misordered t (range_of above))
            → Agrees n down up (choice_of down up n below above) (choose empty occupied misordered t (range_of below) (range_of above))
        pick (yes l) =
            let e = below_cost below in
            rw (
              choose_down empty occupied misordered t (range_of below) (range_of above) l,
              preferred_down (best_below down n below) (best_above up n above) (omega (arith, e, above_cost above)),
            )
            record {
              direction = refl;
              cost = e;
              finite = λ h.
                  emits empty occupied misordered t n refl down down_costs _ _ (omega (arith, e))
                  (best_at down n below.from (min below.to n) (omega arith) (omega (arith, e))) (below_slot below)
                  (ap (down_chain empty occupied misordered t) (sym (below_slot below)) ∙ sym (map-id _));
            }
        pick (no l) =
            let e = above_cost above in
            rw (
              choose_up empty occupied misordered t (range_of below) (range_of above) (omega arith),
              preferred_up (best_below down n below) (best_above up n above) (omega (arith, e, below_cost below)),
            )
            record {
              direction = refl;
              cost = e;
              finite = λ h.
                  let at = best_at up n (n - above.to) (n - above.from) (omega arith) (omega (arith, e)) in
                  emits empty occupied (swapped misordered) (reverse t) n (length-reverse t) up up_costs _ _ (omega (arith, e)) at (above_slot above h)
                  (ap (up_chain empty occupied misordered t) (sym (above_slot above h)) ∙ up_chain_lem _ at.0);
            }

module _ {S : Type 0} (empty : S) (occupied : S → Bool) (misordered : S → S → Bool) (t : List S) where
  -- costs computed from the ends of a layout's windows, over as many slots as the layout has, choose as the layout does
  pub numbers_law : (n : ℕ) → length t ≡ n → (ends_down ends_up : List ℕ) (down up : ℕ → ℕ) → Ends empty occupied misordered t ends_down
      → Ends empty occupied (swapped misordered) (reverse t) ends_up → SolvedFrom ends_down n 0 down → SolvedFrom ends_up n 0 up → (below above : SlotRange)
      → Agrees n down up (choice_of down up n below above) (choose empty occupied misordered t (range_of below) (range_of above))
  unfolding down_cost
  numbers_law n size ends_down ends_up down up e f g h below above =
      let back : length (reverse t) ≡ length t = length-reverse t in
      let up_costs : (p : ℕ) → p < length t → up p ≡ slot_cost empty occupied (swapped misordered) (length t) (reverse t) p =
      λ p b. rw back at (costs_settled empty occupied (swapped misordered) (reverse t) ends_up up f (rw (back, size) h) p (omega arith)) in
      rw (← size) (choice_law empty occupied misordered t down up (costs_settled empty occupied misordered t ends_down down e (rw size g)) up_costs below above)
