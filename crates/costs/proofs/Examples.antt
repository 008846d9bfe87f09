-- Worked examples: tables of document 01, evaluated on the ends of their windows: the equation of costs at each position.
-- Each is checked by computation alone.
use Rattle.std.specs.Prelude.{◌≡◌, refl, [], ◌∷◌, map}
use Rattle.layout.specs.Minimum.{minimum}
use Rattle.costs.specs.Costs.{cost_of, position_cost}

-- slots 0 a, 1 other, 2 c, 3 d, 4 empty; c depends on a, d on c
five_down : map (position_cost (3 ∷ 5 ∷ 4 ∷ 5 ∷ 0 ∷ []) 5 (cost_of (2 ∷ 1 ∷ 2 ∷ 1 ∷ 0 ∷ []))) (0 ∷ 1 ∷ 2 ∷ 3 ∷ 4 ∷ []) ≡ 2 ∷ 1 ∷ 2 ∷ 1 ∷ 0 ∷ []
unfolding position_cost minimum
five_down = refl

five_up : map (position_cost (0 ∷ 3 ∷ 5 ∷ 5 ∷ 5 ∷ []) 5 (cost_of (0 ∷ 6 ∷ 6 ∷ 6 ∷ 6 ∷ []))) (0 ∷ 1 ∷ 2 ∷ 3 ∷ 4 ∷ []) ≡ 0 ∷ 6 ∷ 6 ∷ 6 ∷ 6 ∷ []
unfolding position_cost minimum
five_up = refl

-- 0 empty, 1 a, 2 b, b depends on a
between_down : map (position_cost (0 ∷ 3 ∷ 3 ∷ []) 3 (cost_of (0 ∷ 4 ∷ 4 ∷ []))) (0 ∷ 1 ∷ 2 ∷ []) ≡ 0 ∷ 4 ∷ 4 ∷ []
unfolding position_cost minimum
between_down = refl

between_up : map (position_cost (2 ∷ 3 ∷ 0 ∷ []) 3 (cost_of (2 ∷ 1 ∷ 0 ∷ []))) (0 ∷ 1 ∷ 2 ∷ []) ≡ 2 ∷ 1 ∷ 0 ∷ []
unfolding position_cost minimum
between_up = refl
