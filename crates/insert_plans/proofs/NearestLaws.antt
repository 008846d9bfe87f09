-- End theorems on costs in document 01's words: in a sound table a slot's window is what its cost looks at, up to and including the nearest dependant
-- going down, back to and including the nearest rule that precedes it going up.
use Rattle.std.specs.Prelude.{◌≡◌, Bool, true, false, not, ◌⊎◌, List, ℕ, suc, ◌≤◌, ◌<◌, length, get_or}
use Rattle.std.proofs.Common.{sym, ap, ◌∙◌, true≢false, arith}
use Rattle.std.proofs.Math.Logic.◌⊎◌.{inl, inr}
use Rattle.std.proofs.Math.Decide.{dec_lt}
use Rattle.layout.specs.Order.{Higher, Lower, swapped}
use Rattle.layout.specs.Cost.{InWindow, Costs, WindowOrPast}
use Rattle.layout.specs.Plan.{down_cost, up_cost}
use Rattle.layout.proofs.PlanCostLaws.{down_past, up_past, down_costs, up_costs, down_below, up_below}
use Rattle.records.specs.Record.{slot_words, empty}
use Rattle.records.specs.Order.{slots}
use Rattle.records.specs.Checks.{table_checks, check_order}
use Rattle.records.proofs.Laws.{table_checks_law}
use Rattle.records.specs.Entries.{vacant, entries, entry_occupied, entry_misordered}
use Rattle.records.specs.Verdict.{Pass}
use Rattle.records.proofs.EntriesLaws.{entries_length, occupied_at_lem, misordered_at}
use Rattle.windows.specs.ListedLaws.{dependant_after}
use Rattle.insert_plans.specs.Nearest.{depends_at, precedes_at, InReach, CostOfReach}

-- along a direction in which the rules that are misplaced are those that bound
module _ (w : ℕ) (t : List ℕ) (toward : ℕ → ℕ → Type 0) (misplaced : List ℕ → List ℕ → Bool) (bounds : ℕ → ℕ → Bool)
    (same : (i y : ℕ) → i < slots w t → y < slots w t → toward i y
    → misplaced (get_or (entries w t) y (vacant w)) (get_or (entries w t) i (vacant w)) ≡ bounds i y) where
  n : length (entries w t) ≡ slots w t
  n = entries_length w t

  abbrev Window : ℕ → ℕ → Type 0
  Window = InWindow (vacant w) toward misplaced (entries w t)

  pub window_reach : (i j : ℕ) → i < slots w t → Window i j → InReach toward bounds (slots w t) i j
  window_reach i j h v = record {
    within = omega (arith, n, v.inside);
    after = v.after;
    not_past = λ d near past. true≢false
        (sym near.bounding ∙ (sym (same i d h near.within near.after) ∙ v.between d (omega (arith, n, near.within)) near.after past));
  }

  module _ (past : WindowOrPast (vacant w) toward misplaced (entries w t)) where
    reach_window : (i j : ℕ) → i < slots w t → InReach toward bounds (slots w t) i j → Window i j
    reach_window i j h r = pick (past i j (omega (arith, n)) (omega (arith, n, r.within)) r.after)
      where
        pick : Window i j
            ⊎ ((y : ℕ) × Window i y × toward y j × (misplaced (get_or (entries w t) y (vacant w)) (get_or (entries w t) i (vacant w)) ≡ true)) → Window i j
        pick (inl v) = v
        pick (inr (y, v, u, e)) =
            let low : y < slots w t = omega (arith, n, v.inside) in
            absurd (r.not_past y (record {
              within = low;
              after = v.after;
              bounding = sym (same i y h low v.after) ∙ e;
              none_nearer = λ x l a b. sym (same i x h l a) ∙ v.between x (omega (arith, n)) a b;
            }) u)

    -- with costs that are below N unless they are above it
    cost_of_reach : (c : ℕ → ℕ) → Costs (vacant w) (entry_occupied w) toward misplaced (entries w t) (length (entries w t)) c
        → ((i : ℕ) → i < length (entries w t) → c i ≤ length (entries w t) → c i < length (entries w t)) → CostOfReach w t toward bounds c
    cost_of_reach c law apart = record {
      vacant = λ i h e. law.vacant i (omega (arith, n)) (occupied_at_lem w t i h ∙ ap not e);
      least = least;
      attained = attained;
      infinite = λ i h e. (λ l j r. all i j h e l r (dec_lt (c j) (slots w t)), λ none. one i h e none (dec_lt (c i) (slots w t)));
    }
      where
        least : (i j : ℕ) → i < slots w t → empty w (slot_words w t i) ≡ false → InReach toward bounds (slots w t) i j → c i ≤ suc (c j)
        least i j h e r = law.within i j (omega (arith, n)) (occupied_at_lem w t i h ∙ ap not e) (reach_window i j h r)

        attained : (i : ℕ) → i < slots w t → empty w (slot_words w t i) ≡ false → c i < slots w t
            → (j : ℕ) × InReach toward bounds (slots w t) i j × (c i ≡ suc (c j))
        attained i h e f =
            let r = law.next i (omega (arith, n)) (occupied_at_lem w t i h ∙ ap not e) (omega (arith, n)) in
            (r.0, window_reach i r.0 h r.1, r.2)

        all : (i j : ℕ) → i < slots w t → empty w (slot_words w t i) ≡ false → slots w t ≤ c i → InReach toward bounds (slots w t) i j
            → Dec (c j < slots w t) → slots w t ≤ c j
        all i j h e l r (yes f) = absurd (omega (arith, n, apart i (omega (arith, n)) (omega (arith, n, least i j h e r))))
        all i j h e l r (no f) = omega arith

        one : (i : ℕ) → i < slots w t → empty w (slot_words w t i) ≡ false
            → ((j : ℕ) → InReach toward bounds (slots w t) i j → slots w t ≤ c j) → Dec (c i < slots w t) → slots w t ≤ c i
        one i h e none (yes l) = let r = attained i h e l in absurd (omega (arith, none r.0 r.1, r.2))
        one i h e none (no l) = omega arith

-- in a table in order the rules that are misplaced after a rule are those that depend on it, and before it those that precede it
module _ (w : ℕ) (u : Bool) (t : List ℕ) (order : check_order w u t ≡ Pass) (i y : ℕ) (h : i < slots w t) (l : y < slots w t) where
  pub down_bounds : Higher i y → entry_misordered w u (get_or (entries w t) y (vacant w)) (get_or (entries w t) i (vacant w)) ≡ depends_at w u t i y
  down_bounds a = misordered_at w u t y i l h ∙ dependant_after w u t order i y a l

  pub up_bounds : Lower i y → swapped (entry_misordered w u) (get_or (entries w t) y (vacant w)) (get_or (entries w t) i (vacant w)) ≡ precedes_at w u t i y
  up_bounds a = misordered_at w u t i y h l ∙ dependant_after w u t order y i a h

-- Document 01: the down and up costs by which a plan is found are, in every sound table, 0 if the slot is empty, else 1 + the least of the slots after it,
-- up to and including the nearest dependant of its rule, or up to N − 1 if there is none; and of the slots before it, back to and including the
-- nearest rule that precedes it, or to 0.
pub costs_of_reach : (w : ℕ) (u : Bool) (t : List ℕ) → table_checks w u t ≡ Pass
    → CostOfReach w t Higher (depends_at w u t) (down_cost (vacant w) (entry_occupied w) (entry_misordered w u) (entries w t))
    × CostOfReach w t Lower (precedes_at w u t) (up_cost (vacant w) (entry_occupied w) (entry_misordered w u) (entries w t))
costs_of_reach w u t checks = (
  cost_of_reach w t Higher (entry_misordered w u) (depends_at w u t)
      (down_bounds w u t order)
      (down_past (vacant w) (entry_misordered w u) (entries w t)) _ (down_costs (vacant w) (entry_occupied w) (entry_misordered w u) (entries w t))
      (λ i h e. omega (arith, down_below (vacant w) (entry_occupied w) (entry_misordered w u) (entries w t) i h e)),
  cost_of_reach w t Lower (swapped (entry_misordered w u)) (precedes_at w u t)
      (up_bounds w u t order)
      (up_past (vacant w) (entry_misordered w u) (entries w t)) _ (up_costs (vacant w) (entry_occupied w) (entry_misordered w u) (entries w t))
      (λ i h e. omega (arith, up_below (vacant w) (entry_occupied w) (entry_misordered w u) (entries w t) i h e)),
)
  where
    order : check_order w u t ≡ Pass
    order = ((table_checks_law w u t).0 checks).2
