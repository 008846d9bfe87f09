-- Worked examples: tables of document 01, evaluated on their costs: the plan's words.
-- Each is checked by computation alone.
use Rattle.std.specs.Prelude.{◌≡◌, refl, cond, List, [], ◌∷◌, map, ℕ}
use Rattle.search.specs.Search.{least}
use Rattle.layout.specs.Minimum.{minimum, lowest_at}
use Rattle.layout.specs.Write.{copy, put}
use Rattle.plan_words.specs.PlanWords.{write_word}
use Rattle.costs.specs.Costs.{cost_of}
use Rattle.planner.specs.Emit.{emitted}
use Rattle.planner.specs.Choice.{preferred, choice_of, choice_words}
use Rattle.planner.specs.declared.SlotRange.{SlotRange}

-- the plan of the choice, from the costs going down and going up
plan_of : List ℕ → List ℕ → ℕ → SlotRange → SlotRange → List ℕ
plan_of down up slots below above =
    let choice = choice_of (cost_of down) (cost_of up) slots below above in
    choice_words (cond choice.up (cost_of up) (cost_of down)) slots choice

-- slots 0 a, 1 other, 2 c, 3 d, 4 empty; c depends on a, d on c; new rule before a: 1→4, 0→1, new→0
five_plan : plan_of (2 ∷ 1 ∷ 2 ∷ 1 ∷ 0 ∷ []) (0 ∷ 6 ∷ 6 ∷ 6 ∷ 6 ∷ []) 5 (record { from = 0; to = 1 }) (record { from = 0; to = 0 })
    ≡ map write_word (copy 1 4 ∷ copy 0 1 ∷ put 0 ∷ [])
unfolding least minimum lowest_at preferred emitted choice_words plan_of
five_plan = refl

-- 0 empty, 1 a, 2 b, b depends on a; new rule between: 1→0, new→1
between_plan : plan_of (0 ∷ 4 ∷ 4 ∷ []) (2 ∷ 1 ∷ 0 ∷ []) 3 (record { from = 2; to = 3 }) (record { from = 1; to = 2 })
    ≡ map write_word (copy 1 0 ∷ put 1 ∷ [])
unfolding least minimum lowest_at preferred emitted choice_words plan_of
between_plan = refl

-- with slot 3 empty too the two costs are equal, and the plan goes down: 2→3, new→2
equal_plan : plan_of (0 ∷ 2 ∷ 1 ∷ 0 ∷ []) (0 ∷ 2 ∷ 1 ∷ 0 ∷ []) 4 (record { from = 2; to = 3 }) (record { from = 1; to = 2 })
    ≡ map write_word (copy 2 3 ∷ put 2 ∷ [])
unfolding least minimum lowest_at preferred emitted choice_words plan_of
equal_plan = refl
