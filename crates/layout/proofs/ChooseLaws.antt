-- End theorems on the choice: it keeps its word, for any two ranges, and no slot of either range costs less.
use Rattle.std.specs.Prelude.{◌≡◌, Bool, true, false, ◌⊎◌, List, ℕ, ◌+◌, ◌-◌, ◌≤◌, ◌<◌, min, length}
use Rattle.std.proofs.Common.{ap, ◌∙◌, arith, le-leb}
use Rattle.std.proofs.Math.Logic.◌⊎◌.{inl, inr}
use Rattle.std.proofs.Math.Decide.{dec_le}
use Rattle.std.proofs.lemmas.Bool.{lt-leb}
use Rattle.layout.specs.Order.{Higher, Lower, swapped}
use Rattle.layout.specs.Minimum.{LeastAt}
use Rattle.layout.specs.Chain.{Walk}
use Rattle.layout.specs.Plan.{Range, Choice, down_cost, up_cost, down_chain, up_chain, best_down, best_up, slot_down, slot_up, choose}
use Rattle.layout.proofs.MinimumLaws.{minimum_law, lowest_at_law, highest_at_law}
use Rattle.layout.specs.Choose.{Chosen}
use Rattle.layout.proofs.PlanCostLaws.{down_walk, up_walk}

module _ {S : Type 0} (empty : S) (occupied : S → Bool) (misordered : S → S → Bool) (t : List S) where
  -- no slot of the range costs less
  pub best_down_lem : (r : Range) (j : ℕ) → r.from ≤ j → j < r.to → j < length t
      → best_down empty occupied misordered t r ≤ down_cost empty occupied misordered t j
  unfolding best_down
  best_down_lem r j l u b = (minimum_law (down_cost empty occupied misordered t) (length t) (min r.to (length t) - r.from) r.from).low j l (omega arith)

  pub best_up_lem : (r : Range) (j : ℕ) → r.from ≤ j → j < r.to → j < length t
      → best_up empty occupied misordered t r ≤ up_cost empty occupied misordered t j
  unfolding best_up
  best_up_lem r j l u b = (minimum_law (up_cost empty occupied misordered t) (length t) (min r.to (length t) - r.from) r.from).low j l (omega arith)

  -- "the smaller of these two wins, down if equal"
  pub choose_down : (below above : Range) → best_down empty occupied misordered t below ≤ best_up empty occupied misordered t above
      → choose empty occupied misordered t below above
      ≡ record {
        down = true;
        cost = best_down empty occupied misordered t below;
        slot = slot_down empty occupied misordered t below;
        chain = down_chain empty occupied misordered t (slot_down empty occupied misordered t below);
      }
  unfolding choose
  choose_down below above h = rw (le-leb _ _ h)

  pub choose_up : (below above : Range) → best_up empty occupied misordered t above < best_down empty occupied misordered t below
      → choose empty occupied misordered t below above
      ≡ record {
        down = false;
        cost = best_up empty occupied misordered t above;
        slot = slot_up empty occupied misordered t above;
        chain = up_chain empty occupied misordered t (slot_up empty occupied misordered t above);
      }
  unfolding choose
  choose_up below above h = rw (lt-leb _ _ h)

  pub choose_least : (below above : Range)
      → (choose empty occupied misordered t below above).cost ≡ min (best_down empty occupied misordered t below) (best_up empty occupied misordered t above)
  choose_least below above = pick (dec_le (best_down empty occupied misordered t below) (best_up empty occupied misordered t above))
    where
      pick : Dec (best_down empty occupied misordered t below ≤ best_up empty occupied misordered t above)
          → (choose empty occupied misordered t below above).cost ≡ min (best_down empty occupied misordered t below) (best_up empty occupied misordered t above)
      pick (yes h) = ap (λ (c : Choice). c.cost) (choose_down below above h) ∙ omega arith
      pick (no h) = ap (λ (c : Choice). c.cost) (choose_up below above (omega arith)) ∙ omega arith

  lowest_at_lem : (r : Range) → best_down empty occupied misordered t r < length t
      → LeastAt Higher (down_cost empty occupied misordered t) r.from (r.from + (min r.to (length t) - r.from))
      (best_down empty occupied misordered t r) (slot_down empty occupied misordered t r)
  unfolding best_down slot_down
  lowest_at_lem r h = lowest_at_law (down_cost empty occupied misordered t) (length t) (min r.to (length t) - r.from) r.from h

  highest_at_lem : (r : Range) → best_up empty occupied misordered t r < length t
      → LeastAt Lower (up_cost empty occupied misordered t) r.from (r.from + (min r.to (length t) - r.from))
      (best_up empty occupied misordered t r) (slot_up empty occupied misordered t r)
  unfolding best_up slot_up
  highest_at_lem r h = highest_at_law (up_cost empty occupied misordered t) (length t) (min r.to (length t) - r.from) r.from h

  -- in either direction: a slot of least cost by the tie rule, and its walk
  chosen_along : {toward : ℕ → ℕ → Type 0} {misplaced : S → S → Bool} {c : ℕ → ℕ} (r : Range) (choice : Choice)
      → LeastAt toward c r.from (r.from + (min r.to (length t) - r.from)) choice.cost choice.slot
      → ((j : ℕ) → r.from ≤ j → j < r.to → j < length t → choice.cost ≤ c j)
      → (choice.slot < length t → Walk empty occupied toward misplaced t c choice.slot choice.chain)
      → Chosen empty occupied toward misplaced t c r choice
  chosen_along r choice l least walk =
      let inside : choice.slot < length t = omega (arith, l.below, l.from) in
      record {
        inside = inside;
        from = l.from;
        to = omega (arith, l.below, l.from);
        cost = l.value;
        least = least;
        tie = λ j a b c d. l.tie j a (omega arith) d;
        walk = walk inside;
      }

  -- a choice of finite cost, down or up
  pub chosen : (below above : Range) → (choose empty occupied misordered t below above).cost < length t
      → Chosen empty occupied Higher misordered t (down_cost empty occupied misordered t) below (choose empty occupied misordered t below above)
      ⊎ Chosen empty occupied Lower (swapped misordered) t (up_cost empty occupied misordered t) above (choose empty occupied misordered t below above)
  chosen below above h = pick (dec_le (best_down empty occupied misordered t below) (best_up empty occupied misordered t above))
    where
      pick : Dec (best_down empty occupied misordered t below ≤ best_up empty occupied misordered t above)
          → Chosen empty occupied Higher misordered t (down_cost empty occupied misordered t) below (choose empty occupied misordered t below above)
          ⊎ Chosen empty occupied Lower (swapped misordered) t (up_cost empty occupied misordered t) above (choose empty occupied misordered t below above)
      pick (yes l) =
          let h' : best_down empty occupied misordered t below < length t = omega (arith, choose_least below above) in
          let at = lowest_at_lem below h' in
          inl (rw (choose_down below above l)
          (chosen_along below _ at (best_down_lem below) (λ b. down_walk empty occupied misordered t _ b (omega (arith, at.value)))))
      pick (no l) =
          let h' : best_up empty occupied misordered t above < length t = omega (arith, choose_least below above) in
          let at = highest_at_lem above h' in
          inr (rw (choose_up below above (omega arith))
          (chosen_along above _ at (best_up_lem above) (λ b. up_walk empty occupied misordered t _ b (omega (arith, at.value)))))
