-- How a plan is found, in document 01's words: costs in both directions, the neighbours A and B, the choice, the chain, the writes.
-- The choice takes its two ranges of slots as arguments; the ranges of an insert are one use of it.
use Rattle.std.specs.Prelude.{Bool, true, false, cond, List, [], ◌∷◌, ◌++◌, map, reverse, ℕ, suc, ◌-◌, ◌≤◌, min, leb, length, get_or}
use Rattle.search.specs.Search.{least, after_last}
use Rattle.layout.specs.Order.{swapped}
use Rattle.layout.specs.Minimum.{minimum, lowest_at, highest_at}
use Rattle.layout.specs.Cost.{slot_cost, next_slot}
use Rattle.layout.specs.Mirror.{mirror}
use Rattle.layout.specs.Chain.{steps}
use Rattle.layout.specs.Write.{Write, put, moves}

-- the slots from the one number up to, not including, the other
pub record Range : Type 0 where
  pub from : ℕ
  pub to : ℕ

-- where the new rule goes, at which cost, and to which slots the displaced rules move in turn
pub record Choice : Type 0 where
  pub down : Bool
  pub cost : ℕ
  pub slot : ℕ
  pub chain : List ℕ

module _ {S : Type 0} (empty : S) (misordered : S → S → Bool) where
  -- the first slot of i's window going up: the nearest rule that precedes it, or 0
  unfoldable pub window_start : List S → ℕ → ℕ
  window_start t i = after_last (λ y. misordered (get_or t i empty) (get_or t y empty)) i - 1

  -- A + 1, where A is the highest_at slot holding a rule that precedes the new one
  unfoldable pub after_preceding : List S → S → ℕ
  after_preceding t new = after_last (λ i. misordered new (get_or t i empty)) (length t)

  -- B, the lowest_at slot holding a rule that depends on the new one
  unfoldable pub first_dependant : List S → S → ℕ
  first_dependant t new = least (λ i. misordered (get_or t i empty) new) (length t) 0

  -- an insert's ranges: A + 1 to B going down, A to B − 1 going up
  abbrev pub range_down : List S → S → Range
  range_down t new = record { from = after_preceding t new; to = suc (first_dependant t new) }

  abbrev pub range_up : List S → S → Range
  range_up t new = record { from = after_preceding t new - 1; to = first_dependant t new }

  -- A < B, in numbers: not crossed
  abbrev pub Uncrossed : List S → S → Type 0
  Uncrossed t new = after_preceding t new ≤ first_dependant t new

module _ {S : Type 0} (empty : S) (occupied : S → Bool) (misordered : S → S → Bool) where
  -- the cost of slot i, infinite where it is N or more
  unfoldable pub down_cost : List S → ℕ → ℕ
  down_cost t i = slot_cost empty occupied misordered (length t) t i

  unfoldable pub up_cost : List S → ℕ → ℕ
  up_cost t i = slot_cost empty occupied (swapped misordered) (length t) (reverse t) (mirror (length t) i)

  -- the slots to which the rule of slot s and the rules it displaces move in turn
  unfoldable pub down_chain : List S → ℕ → List ℕ
  down_chain t s = steps (λ k. next_slot empty occupied misordered (length t) t) (down_cost t s) s

  unfoldable pub up_chain : List S → ℕ → List ℕ
  up_chain t s =
      map (mirror (length t)) (steps (λ k. next_slot empty occupied (swapped misordered) (length t) (reverse t)) (up_cost t s) (mirror (length t) s))

  -- the least cost in a range, within the layout, and the slot where it is: the lowest_at going down, the highest_at going up
  unfoldable pub best_down : List S → Range → ℕ
  best_down t r = minimum (down_cost t) (length t) (min r.to (length t) - r.from) r.from

  unfoldable pub best_up : List S → Range → ℕ
  best_up t r = minimum (up_cost t) (length t) (min r.to (length t) - r.from) r.from

  unfoldable pub slot_down : List S → Range → ℕ
  slot_down t r = lowest_at (down_cost t) (length t) (min r.to (length t) - r.from) r.from

  unfoldable pub slot_up : List S → Range → ℕ
  slot_up t r = highest_at (up_cost t) (length t) (min r.to (length t) - r.from) r.from

  -- the smaller of the two wins, down if equal
  unfoldable pub choose : List S → Range → Range → Choice
  choose t below above =
      cond (leb (best_down t below) (best_up t above))
      (record { down = true; cost = best_down t below; slot = slot_down t below; chain = down_chain t (slot_down t below) })
      (record { down = false; cost = best_up t above; slot = slot_up t above; chain = up_chain t (slot_up t above) })

  unfoldable pub insert_choice : List S → S → Choice
  insert_choice t new = choose t (range_down empty misordered t new) (range_up empty misordered t new)

-- the plan: the far end of the chain first, the new rule last
abbrev pub writes : Choice → List Write
writes c = moves c.slot c.chain ++ (put c.slot ∷ [])
