-- The windows of a table's rules, seen along one direction: position p is slot p going down, and slot n − 1 − p going up.
-- One definition serves both directions; the planner works on these numbers alone.
use Rattle.std.specs.Prelude.{Bool, true, false, cond, List, ℕ, suc, ◌+◌, ◌-◌, ◌*◌, min, ltb, get_or}
use Rattle.search.specs.Search.{least}
use Rattle.positions.specs.Positions.{slot_at}
use Rattle.records.specs.Record.{slot_words, empty}
use Rattle.records.specs.Order.{slots, misordered}

-- the rule at position q, later along the direction, stands on the wrong side if it comes before the one at p
unfoldable pub misplaced_at : ℕ → Bool → List ℕ → Bool → ℕ → ℕ → Bool
misplaced_at w u t true p q = misordered w u (slot_words w t (slot_at (slots w t) true p)) (slot_words w t (slot_at (slots w t) true q))
misplaced_at w u t false p q = misordered w u (slot_words w t (slot_at (slots w t) false q)) (slot_words w t (slot_at (slots w t) false p))

-- one past the last position of p's window: the nearest such rule, or the last position
unfoldable pub window_end_at : ℕ → Bool → List ℕ → Bool → ℕ → ℕ
window_end_at w u t up p = min (suc (least (misplaced_at w u t up p) (slots w t - suc p) (suc p))) (slots w t)

-- the planner's number for a position: 0 where it is empty, else the end of its window
unfoldable pub end_at : ℕ → Bool → List ℕ → Bool → ℕ → ℕ
end_at w u t up p = cond (empty w (slot_words w t (slot_at (slots w t) up p))) 0 (window_end_at w u t up p)

-- the end of a window among n positions, told by the slot of the nearest dependant going down and of the nearest preceding rule going up;
-- a number that is no slot's stands for none
unfoldable pub end_after : ℕ → ℕ → ℕ
end_after n next = cond (ltb next n) (next + 1) n

unfoldable pub end_before : ℕ → ℕ → ℕ
end_before n before = cond (ltb before n) (n - before) n

-- the end of p's window, as a neighbour list tells it
unfoldable pub listed_end : List ℕ → ℕ → Bool → ℕ → ℕ
listed_end near n true p = end_before n (get_or near (2 * (n - 1 - p) + 1) 0)
listed_end near n false p = end_after n (get_or near (2 * p) 0)
