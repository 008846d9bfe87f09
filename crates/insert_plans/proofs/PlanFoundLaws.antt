-- End theorems on the choice in document 01's words: the slot of an insert, its direction and where the displaced rules go.
use Rattle.std.specs.Prelude.{◌≡◌, Bool, false, not, List, ℕ, ◌-◌, ◌≤◌, ◌<◌, min, length, get_or}
use Rattle.std.proofs.Common.{sym, ap, ◌∙◌, subst, true≢false, ⊎_elim, arith}
use Rattle.std.proofs.Math.Bool.{not-not}
use Rattle.std.proofs.Math.Decide.{dec_le}
use Rattle.std.proofs.lemmas.Bool.{not-true}
use Rattle.layout.specs.Order.{Higher, Lower, swapped}
use Rattle.layout.specs.Minimum.{minimum}
use Rattle.layout.specs.Chain.{Walk}
use Rattle.layout.specs.Choose.{Chosen}
use Rattle.layout.specs.Plan.{Range, Choice, down_cost, up_cost, best_down, best_up, choose, insert_choice, range_down, range_up}
use Rattle.layout.proofs.Exists.{choice_exists}
use Rattle.layout.proofs.ChooseLaws.{best_down_lem, best_up_lem, choose_down, choose_up, choose_least, chosen}
use Rattle.records.specs.Record.{slot_words, empty, record_of}
use Rattle.records.specs.Order.{slots}
use Rattle.records.specs.Checks.{check_order}
use Rattle.records.proofs.Laws.{table_checks_law}
use Rattle.records.specs.Entries.{vacant, entries, entry_occupied, entry_misordered}
use Rattle.records.specs.Inserts.{insert_choice_of}
use Rattle.records.specs.declared.Rule.{Rule}
use Rattle.records.specs.Verdict.{Pass}
use Rattle.records.proofs.EntriesLaws.{entries_length, occupied_at_lem}
use Rattle.records.proofs.InsertsLaws.{after_preceding_slots, first_dependant_slots}
use Rattle.neighbours.specs.Neighbours.{rule_words}
use Rattle.insert_plans.specs.Insertable.{Insertable}
use Rattle.insert_plans.specs.Nearest.{depends_at, precedes_at, CostOfReach}
use Rattle.insert_plans.specs.PlanFound.{AmongDown, AmongUp, Displaced, ChosenAlong, PlanFound, vacant as ends, moved}
use Rattle.insert_plans.proofs.InsertsLaws.{after_is, dependant_is, apart}
use Rattle.insert_plans.proofs.NearestLaws.{window_reach, down_bounds, up_bounds, costs_of_reach}

-- among no slots the least cost is infinite
least_of_none : (c : ℕ → ℕ) (top : ℕ) → minimum c top (min 0 top - 0) 0 ≡ top
unfolding minimum
least_of_none c top = let e : min 0 top - 0 ≡ 0 = omega arith in ap (λ (k : ℕ). minimum c top k 0) e

module _ {S : Type 0} (empty : S) (occupied : S → Bool) (misordered : S → S → Bool) (t : List S) (below above : Range)
    (finite : (choose empty occupied misordered t below above).cost < length t) where
  abbrev none : Range
  none = record { from = 0; to = 0 }

  none_down : best_down empty occupied misordered t none ≡ length t
  unfolding best_down
  none_down = least_of_none (down_cost empty occupied misordered t) (length t)

  none_up : best_up empty occupied misordered t none ≡ length t
  unfolding best_up
  none_up = least_of_none (up_cost empty occupied misordered t) (length t)

  -- in which direction a choice keeps its word: it is the one made where the other has no slots
  chosen_down : best_down empty occupied misordered t below ≤ best_up empty occupied misordered t above
      → Chosen empty occupied Higher misordered t (down_cost empty occupied misordered t) below (choose empty occupied misordered t below above)
  chosen_down l =
      ⊎_elim (subst (Chosen empty occupied Higher misordered t (down_cost empty occupied misordered t) below) alone) (λ c. absurd (omega (arith, c.to)))
      (chosen empty occupied misordered t below none (subst (λ (c : Choice). c.cost < length t) (sym alone) finite))
    where
      alone : choose empty occupied misordered t below none ≡ choose empty occupied misordered t below above
      alone =
          choose_down empty occupied misordered t below none (omega (arith, finite, none_up, choose_least empty occupied misordered t below above))
          ∙ sym (choose_down empty occupied misordered t below above l)

  chosen_up : best_up empty occupied misordered t above < best_down empty occupied misordered t below
      → Chosen empty occupied Lower (swapped misordered) t (up_cost empty occupied misordered t) above (choose empty occupied misordered t below above)
  chosen_up l =
      ⊎_elim (λ c. absurd (omega (arith, c.to)))
      (subst (Chosen empty occupied Lower (swapped misordered) t (up_cost empty occupied misordered t) above) alone)
      (chosen empty occupied misordered t none above (subst (λ (c : Choice). c.cost < length t) (sym alone) finite))
    where
      alone : choose empty occupied misordered t none above ≡ choose empty occupied misordered t below above
      alone =
          choose_up empty occupied misordered t none above (omega (arith, finite, none_down, choose_least empty occupied misordered t below above))
          ∙ sym (choose_up empty occupied misordered t below above l)

-- along a direction in which the rules that are misplaced are those that bound
module _ (w : ℕ) (t : List ℕ) (toward : ℕ → ℕ → Type 0) (misplaced : List ℕ → List ℕ → Bool) (bounds : ℕ → ℕ → Bool)
    (same : (i y : ℕ) → i < slots w t → y < slots w t → toward i y
    → misplaced (get_or (entries w t) y (vacant w)) (get_or (entries w t) i (vacant w)) ≡ bounds i y)
    (cost : ℕ → ℕ) (reach : CostOfReach w t toward bounds cost) where
  walk_displaced : {s : ℕ} {rest : List ℕ} → Walk (vacant w) (entry_occupied w) toward misplaced (entries w t) cost s rest
      → Displaced w t toward bounds cost s rest
  walk_displaced {s} (Walk.stop b o) =
      let h : s < slots w t = omega (arith, entries_length w t) in
      ends h (sym (not-not (empty w (slot_words w t s))) ∙ ap not (sym (occupied_at_lem w t s h) ∙ o))
  walk_displaced {s} (Walk.link {j = j} b o v e f k) =
      let n = entries_length w t in
      let h : s < slots w t = omega arith in
      let full : empty w (slot_words w t s) ≡ false = not-true _ (sym (occupied_at_lem w t s h) ∙ o) in
      moved h full (record {
        member = window_reach w t toward misplaced bounds same s j h v;
        least = λ y r. omega (arith, e, reach.least s y h full r);
        tie = λ y r u. f y (omega (arith, n, r.within)) r.after u;
      }) (walk_displaced k)

  -- among the slots of a range
  choice_along : (among : ℕ → Type 0) (range : Range) → ((j : ℕ) → among j → (range.from ≤ j) × (j < range.to) × (j < length (entries w t)))
      → ((j : ℕ) → range.from ≤ j → j < range.to → j < length (entries w t) → among j) → (choice : Choice)
      → Chosen (vacant w) (entry_occupied w) toward misplaced (entries w t) cost range choice → ChosenAlong w t toward bounds cost among choice
  choice_along among range into back choice c = record {
    goes = record {
      member = back choice.slot c.from c.to c.inside;
      least = λ j a. let r = into j a in omega (arith, c.cost, c.least j r.0 r.1 r.2);
      tie = λ j a u. let r = into j a in omega (arith, c.cost, c.tie j r.0 r.1 r.2 u);
    };
    costs = sym c.cost;
    follow = walk_displaced c.walk;
  }

-- Document 01: "The new rule goes to the slot of least down cost among A + 1 to B, or of least up cost among A to B − 1, within 0 to N − 1. The smaller
-- of these two wins, down if equal. In a down plan every tie goes to the lowest slot, in an up plan to the highest; each displaced rule follows the same
-- choice." So of every insert that passes checks 1 to 10.
pub plan_found : (w : ℕ) (u : Bool) (t : List ℕ) (rule : Rule) → Insertable w u t rule
    → PlanFound w u t (rule_words w rule) (down_cost (vacant w) (entry_occupied w) (entry_misordered w u) (entries w t))
    (up_cost (vacant w) (entry_occupied w) (entry_misordered w u) (entries w t)) (insert_choice_of w u t rule)
unfolding insert_choice
plan_found w u t rule p =
    pick (dec_le (best_down (vacant w) (entry_occupied w) (entry_misordered w u) (entries w t) below)
    (best_up (vacant w) (entry_occupied w) (entry_misordered w u) (entries w t) above))
  where
    below : Range
    below = range_down (vacant w) (entry_misordered w u) (entries w t) (record_of w rule)

    above : Range
    above = range_up (vacant w) (entry_misordered w u) (entries w t) (record_of w rule)

    order : check_order w u t ≡ Pass
    order = ((table_checks_law w u t).0 p.table).2

    finite : (insert_choice_of w u t rule).cost < length (entries w t)
    finite =
        let n = entries_length w t in
        let e = p.room in
        choice_exists (vacant w) (entry_misordered w u) (entries w t) (record_of w rule) (entry_occupied w) e.0 (omega (arith, e.1))
        (occupied_at_lem w t e.0 e.1 ∙ ap not e.2)
        (omega (arith, apart w u t rule p, after_preceding_slots w u t rule, first_dependant_slots w u t rule))

    into_down : (j : ℕ) → AmongDown w u t (rule_words w rule) j → (below.from ≤ j) × (j < below.to) × (j < length (entries w t))
    into_down j a =
        let n = entries_length w t in
        (omega (arith, after_is w u t rule p, a.0), omega (arith, dependant_is w u t rule p, a.1), omega (arith, a.2))

    into_up : (j : ℕ) → AmongUp w u t (rule_words w rule) j → (above.from ≤ j) × (j < above.to) × (j < length (entries w t))
    into_up j a =
        let n = entries_length w t in
        (omega (arith, after_is w u t rule p, a.0), omega (arith, dependant_is w u t rule p, a.1), omega (arith, a.2))

    pick : Dec (best_down (vacant w) (entry_occupied w) (entry_misordered w u) (entries w t) below
        ≤ best_up (vacant w) (entry_occupied w) (entry_misordered w u) (entries w t) above)
        → PlanFound w u t (rule_words w rule) (down_cost (vacant w) (entry_occupied w) (entry_misordered w u) (entries w t))
        (up_cost (vacant w) (entry_occupied w) (entry_misordered w u) (entries w t)) (insert_choice_of w u t rule)
    pick (yes l) =
        let is = choose_down (vacant w) (entry_occupied w) (entry_misordered w u) (entries w t) below above l in
        let n = entries_length w t in
        record {
          finite = omega (arith, finite);
          down = λ e. (
            choice_along w t Higher (entry_misordered w u) (depends_at w u t) (down_bounds w u t order) _ (costs_of_reach w u t p.table).0
                (AmongDown w u t (rule_words w rule)) below into_down
                (λ j a b c. (omega (arith, after_is w u t rule p), omega (arith, dependant_is w u t rule p), omega arith)) _
                (chosen_down (vacant w) (entry_occupied w) (entry_misordered w u) (entries w t) below above finite l),
            λ j a. let r = into_up j a in
                omega (arith, l, ap (λ (c : Choice). c.cost) is, best_up_lem (vacant w) (entry_occupied w) (entry_misordered w u) (entries w t) above j r.0 r.1 r.2),
          );
          up = λ e. absurd (true≢false (sym (ap (λ (c : Choice). c.down) is) ∙ e));
        }
    pick (no l) =
        let h : best_up (vacant w) (entry_occupied w) (entry_misordered w u) (entries w t) above
        < best_down (vacant w) (entry_occupied w) (entry_misordered w u) (entries w t) below = omega arith in
        let is = choose_up (vacant w) (entry_occupied w) (entry_misordered w u) (entries w t) below above h in
        let n = entries_length w t in
        record {
          finite = omega (arith, finite);
          down = λ e. absurd (true≢false (sym e ∙ ap (λ (c : Choice). c.down) is));
          up = λ e. (
            choice_along w t Lower (swapped (entry_misordered w u)) (precedes_at w u t) (up_bounds w u t order) _ (costs_of_reach w u t p.table).1
                (AmongUp w u t (rule_words w rule)) above into_up
                (λ j a b c. (omega (arith, after_is w u t rule p), omega (arith, dependant_is w u t rule p), omega arith)) _
                (chosen_up (vacant w) (entry_occupied w) (entry_misordered w u) (entries w t) below above finite h),
            λ j a. let r = into_down j a in
                omega (arith, h, ap (λ (c : Choice). c.cost) is, best_down_lem (vacant w) (entry_occupied w) (entry_misordered w u) (entries w t) below j r.0 r.1 r.2),
          );
        }
