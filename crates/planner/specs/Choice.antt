-- The choice between the two directions, by the costs of positions.
-- Ranges are in slot numbers; going up, the slots from f up to, not including, e stand at the positions from slots − e up to slots − f.
use Rattle.std.specs.Prelude.{true, false, cond, List, [], ◌∷◌, ◌++◌, ℕ, ◌-◌, min, leb}
use Rattle.layout.specs.Write.{put}
use Rattle.layout.specs.Minimum.{minimum, lowest_at}
use Rattle.plan_words.specs.PlanWords.{write_word}
use Rattle.positions.specs.Positions.{slot_at}
use Rattle.planner.specs.Emit.{emitted}
use Rattle.planner.specs.declared.SlotRange.{SlotRange}
use Rattle.planner.specs.declared.Best.{Best}
use Rattle.planner.specs.declared.PositionChoice.{PositionChoice}

-- the least cost in a stretch of positions, and the first position that has it
abbrev pub best_of : (ℕ → ℕ) → ℕ → ℕ → ℕ → Best
best_of c slots from to = record { cost = minimum c slots (to - from) from; position = lowest_at c slots (to - from) from }

-- the best going down and going up
abbrev pub best_below : (ℕ → ℕ) → ℕ → SlotRange → Best
best_below down slots r = best_of down slots r.from (min r.to slots)

abbrev pub best_above : (ℕ → ℕ) → ℕ → SlotRange → Best
best_above up slots r = best_of up slots (slots - r.to) (slots - r.from)

-- the smaller of the two wins, down if equal
unfoldable pub preferred : Best → Best → PositionChoice
preferred down up =
    cond (leb down.cost up.cost)
    (record { up = false; cost = down.cost; position = down.position })
    (record { up = true; cost = up.cost; position = up.position })

abbrev pub choice_of : (ℕ → ℕ) → (ℕ → ℕ) → ℕ → SlotRange → SlotRange → PositionChoice
choice_of down up slots below above = preferred (best_below down slots below) (best_above up slots above)

-- the words of the whole plan: the chain's, and last the one that puts the new rule in
unfoldable pub choice_words : (ℕ → ℕ) → ℕ → PositionChoice → List ℕ
choice_words c slots choice =
    emitted c slots choice.up choice.position choice.cost ++ (write_word (put (slot_at slots choice.up choice.position)) ∷ [])
