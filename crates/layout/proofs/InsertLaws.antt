-- End theorems on an insert's plan: it exists, is valid at every prefix, and has the least count of document 01's class.
-- Two rules that tie are misordered both ways, so A < B holds of no rule that ties with one of the table.
use Rattle.std.specs.Prelude.{◌≡◌, Bool, true, false, ◌⊎◌, List, [], ◌∷◌, ℕ, suc, ◌-◌, ◌≤◌, ◌<◌, length, get_or}
use Rattle.std.proofs.Common.{◌∙◌, arith, length-append}
use Rattle.std.proofs.Math.Logic.{⊎_elim}
use Rattle.std.proofs.Math.Logic.◌⊎◌.{inl, inr}
use Rattle.std.proofs.Math.Decide.{dec_le, dec_lt}
use Rattle.std.proofs.lemmas.List.{take-append-le}
use Rattle.search.specs.Search.{Least, AfterLast}
use Rattle.layout.specs.Order.{Laws, InOrder, Direction, Higher, Lower}
use Rattle.layout.specs.Held.{Unique, NewId}
use Rattle.layout.specs.Chain.{Chain}
use Rattle.layout.specs.Cost.{Costs}
use Rattle.layout.specs.Write.{Write, put, carried, moves}
use Rattle.layout.specs.Class.{Sequence, InClass}
use Rattle.layout.proofs.Least.{sequence_least}
use Rattle.layout.specs.Valid.{Placed}
use Rattle.layout.specs.Plan.{Range, Choice, down_cost, up_cost, best_down, best_up, choose, insert_choice, writes, after_preceding, first_dependant}
use Rattle.layout.specs.Plan.{range_down, range_up, Uncrossed}
use Rattle.layout.specs.Choose.{Chosen}
use Rattle.layout.proofs.Exists.{after_preceding_law, first_dependant_law, choice_exists}
use Rattle.layout.proofs.OrderLaws.{down, up, laws_swapped}
use Rattle.layout.proofs.ChainLaws.{walk_chain, walk_length}
use Rattle.layout.proofs.WriteLaws.{moves_length}
use Rattle.layout.proofs.ValidLaws.{chain_between, plan_placed, plan_sequence, sequence_fits}
use Rattle.layout.proofs.ChooseLaws.{chosen, best_down_lem, best_up_lem, choose_least}
use Rattle.layout.specs.Insert.{LeastPlan, Valid}
use Rattle.layout.proofs.PlanCostLaws.{down_costs, up_costs, down_past, up_past}

module _
    {S : Type 0} {empty : S} {occupied : S → Bool} {same misordered : S → S → Bool} (laws : Laws empty occupied same misordered)
    (t : List S) (unique : Unique empty same t) (new : S) where
  module _ (uncrossed : Uncrossed empty misordered t new) where
    -- no sequence toward higher slots is shorter than the down choice, none toward lower slots than the up choice
    pub least_down : {ws : List Write} → Sequence empty occupied same misordered Higher new t ws
        → suc (best_down empty occupied misordered t (range_down empty misordered t new)) ≤ length ws
    least_down =
        sequence_least laws (down empty misordered) t unique (down_costs empty occupied misordered t) (down_past empty misordered t) new
        (best_down empty occupied misordered t (range_down empty misordered t new)) (λ s b after. pick s b after (dec_le a s) (dec_le s f))
      where
        a : ℕ
        a = after_preceding empty misordered t new

        f : ℕ
        f = first_dependant empty misordered t new

        pick : (s : ℕ) → s < length t → ((i : ℕ) → i < length t → misordered new (get_or t i empty) ≡ true → i < s) → Dec (a ≤ s) → Dec (s ≤ f)
            → (best_down empty occupied misordered t (range_down empty misordered t new) ≤ down_cost empty occupied misordered t s)
            ⊎ ((y : ℕ) × (y < length t) × (y < s) × (misordered (get_or t y empty) new ≡ true)
            × (best_down empty occupied misordered t (range_down empty misordered t new) ≤ down_cost empty occupied misordered t y))
        pick s b after (no l) d =
            let law = after_preceding_law empty misordered t new in
            absurd (omega (arith, after (a - 1) (omega (arith, law.high)) (law.hit (a - 1) (omega arith))))
        pick s b after (yes l) (yes r) = inl (best_down_lem empty occupied misordered t (range_down empty misordered t new) s l (omega arith) b)
        pick s b after (yes l) (no r) =
            inr (
              f,
              omega arith,
              omega arith,
              (first_dependant_law empty misordered t new).hit (omega arith),
              best_down_lem empty occupied misordered t (range_down empty misordered t new) f uncrossed (omega arith) (omega arith),
            )

    pub least_up : {ws : List Write} → Sequence empty occupied same misordered Lower new t ws
        → suc (best_up empty occupied misordered t (range_up empty misordered t new)) ≤ length ws
    least_up =
        sequence_least (laws_swapped laws) (up empty misordered) t unique (up_costs empty occupied misordered t) (up_past empty misordered t) new
        (best_up empty occupied misordered t (range_up empty misordered t new)) (λ s b after. pick s b after (dec_lt s f) (dec_le (a - 1) s))
      where
        a : ℕ
        a = after_preceding empty misordered t new

        f : ℕ
        f = first_dependant empty misordered t new

        pick : (s : ℕ) → s < length t → ((i : ℕ) → i < length t → misordered (get_or t i empty) new ≡ true → s < i) → Dec (s < f) → Dec (a - 1 ≤ s)
            → (best_up empty occupied misordered t (range_up empty misordered t new) ≤ up_cost empty occupied misordered t s)
            ⊎ ((y : ℕ) × (y < length t) × (s < y) × (misordered new (get_or t y empty) ≡ true)
            × (best_up empty occupied misordered t (range_up empty misordered t new) ≤ up_cost empty occupied misordered t y))
        pick s b after (no l) d = absurd (omega (arith, after f (omega arith) ((first_dependant_law empty misordered t new).hit (omega arith))))
        pick s b after (yes l) (yes r) = inl (best_up_lem empty occupied misordered t (range_up empty misordered t new) s r l b)
        pick s b after (yes l) (no r) =
            let law = after_preceding_law empty misordered t new in
            inr (
              a - 1,
              omega (arith, law.high),
              omega arith,
              law.hit (a - 1) (omega arith),
              best_up_lem empty occupied misordered t (range_up empty misordered t new) (a - 1) (omega arith) (omega arith) (omega (arith, law.high)),
            )

    -- every sequence of the class has at least as many writes as the chosen cost plus 1
    pub least_count : {ws : List Write} → InClass empty occupied same misordered new t ws
        → suc (insert_choice empty occupied misordered t new).cost ≤ length ws
    unfolding insert_choice
    least_count q =
        let e = choose_least empty occupied misordered t (range_down empty misordered t new) (range_up empty misordered t new) in
        ⊎_elim (λ r. omega (arith, least_down r)) (λ r. omega (arith, least_up r)) q

  module _ (ordered : InOrder empty misordered t) (fresh : NewId empty same t new) (full : occupied new ≡ true) where
    -- in either direction, a chosen slot at which the new rule stands right against every entry gives a valid plan
    valid_along : {toward : ℕ → ℕ → Type 0} {misplaced : S → S → Bool} {c : ℕ → ℕ} {range : Range} (choice : Choice)
        → Laws empty occupied same misplaced → Direction empty misordered toward misplaced → Costs empty occupied toward misplaced t (length t) c
        → Chosen empty occupied toward misplaced t c range choice
        → ((y : ℕ) → y < length t → toward y choice.slot → misplaced (get_or t y empty) new ≡ false)
        → ((z : ℕ) → z < length t → (toward z choice.slot → ⊥) → misplaced new (get_or t z empty) ≡ false)
        → (Sequence empty occupied same misordered toward new t (writes choice) → InClass empty occupied same misordered new t (writes choice))
        → Valid empty occupied same misordered t new choice
    valid_along {toward} {misplaced} choice laws' direction costs w earlier later include = record {
      count = length-append (moves choice.slot choice.chain) (put choice.slot ∷ []) ∙ omega (arith, copies);
      member = include sequence;
      fits = sequence_fits direction.irreflexive sequence;
      between = λ k h.
          let whole = length-append (moves choice.slot choice.chain) (put choice.slot ∷ []) in
          rw (take-append-le k (moves choice.slot choice.chain) (put choice.slot ∷ []) (omega arith))
          (chain_between laws' direction t ordered unique new chain k);
      placed = placed;
    }
      where
        chain : Chain empty occupied toward misplaced t choice.slot choice.chain
        chain = walk_chain costs w.walk

        copies : length (moves choice.slot choice.chain) ≡ choice.cost
        copies = moves_length choice.slot choice.chain ∙ (walk_length costs w.walk ∙ w.cost)

        placed : Placed empty occupied same misordered t new choice.slot (carried empty new t (writes choice))
        placed = plan_placed laws' direction t ordered unique new fresh full choice.slot earlier later chain

        sequence : Sequence empty occupied same misordered toward new t (writes choice)
        sequence = plan_sequence laws' direction t ordered unique new chain placed.order

    -- A plan of finite cost is valid, whatever ranges it was chosen from, if they lie within A + 1 to B and A to B − 1.
    pub choice_valid : (below above : Range)
        → after_preceding empty misordered t new ≤ below.from → below.to ≤ suc (first_dependant empty misordered t new)
        → after_preceding empty misordered t new - 1 ≤ above.from → above.to ≤ first_dependant empty misordered t new
        → (choose empty occupied misordered t below above).cost < length t
        → Valid empty occupied same misordered t new (choose empty occupied misordered t below above)
    choice_valid below above bf bt af at h = ⊎_elim
        (λ w. valid_along _ laws (down empty misordered) (down_costs empty occupied misordered t) w
        (λ y b l. dependant.before y (omega arith) (omega (arith, w.to)))
        (λ z b l. preceding.after z (omega (arith, w.from)) b) inl)
        (λ w. valid_along _ (laws_swapped laws) (up empty misordered) (up_costs empty occupied misordered t) w
        (λ y b l. preceding.after y (omega (arith, w.from)) b)
        (λ z b l. dependant.before z (omega arith) (omega (arith, w.to))) inr)
        (chosen empty occupied misordered t below above h)
      where
        preceding : AfterLast (λ i. misordered new (get_or t i empty)) (length t) (after_preceding empty misordered t new)
        preceding = after_preceding_law empty misordered t new

        dependant : Least (λ i. misordered (get_or t i empty) new) 0 (length t) (first_dependant empty misordered t new)
        dependant = first_dependant_law empty misordered t new

    pub insert_valid : (insert_choice empty occupied misordered t new).cost < length t
        → Valid empty occupied same misordered t new (insert_choice empty occupied misordered t new)
    unfolding insert_choice
    insert_valid h = choice_valid (range_down empty misordered t new) (range_up empty misordered t new) (omega arith) (omega arith) (omega arith) (omega arith) h

    -- with an empty slot and A < B there is a valid plan of least count
    pub insert_plan_lem : (e : ℕ) → e < length t → occupied (get_or t e empty) ≡ false → Uncrossed empty misordered t new
        → LeastPlan empty occupied same misordered t new (insert_choice empty occupied misordered t new)
    insert_plan_lem e b o uncrossed =
        let h = choice_exists empty misordered t new occupied e b o uncrossed in
        let v = insert_valid h in
        record { valid = v; short = omega (arith, v.count); least = λ ws q. omega (arith, v.count, least_count uncrossed q) }
