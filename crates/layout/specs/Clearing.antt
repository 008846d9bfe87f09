-- Document 02, 2026-01: a crossed rule's way is cleared. Its blockers, the choice for the copy of the one in the highest slot, and the writes.
-- An insert's choice with ranges of its own; what is promised of the plan is in Cleared.
use Rattle.std.specs.Prelude.{Bool, cond, List, [], ◌∷◌, ◌++◌, ℕ, ◌-◌, eqb, length, get_or}
use Rattle.layout.specs.Order.{precedes}
use Rattle.layout.specs.Cost.{window_end}
use Rattle.layout.specs.Reached.{reached_below}
use Rattle.layout.specs.Write.{Write, copy, put, clear, moves}
use Rattle.layout.specs.Plan.{Range, Choice, after_preceding, choose}

-- the slot in which the rule of slot p stands after some copies: where the copy from p goes to, else p
abbrev pub landed : ℕ → List Write → ℕ
landed p [] = p
landed p (copy from to ∷ ws) = cond (eqb from p) to (landed p ws)
landed p (put to ∷ ws) = landed p ws
landed p (clear to ∷ ws) = landed p ws

-- the plan for slot p's rule: the chain, the far end first; the rule is copied from where it then stands, and that slot is emptied
abbrev pub clearing_writes : Choice → ℕ → List Write
clearing_writes c p =
    moves c.slot c.chain ++ (copy (landed p (moves c.slot c.chain)) c.slot ∷ clear (landed p (moves c.slot c.chain)) ∷ [])

module _ {S : Type 0} (empty : S) (misordered : S → S → Bool) where
  -- the slots below n whose rules depend on the new one, directly or through others of the layout, in rising order
  unfoldable pub dependants_below : List S → S → ℕ → List ℕ
  dependants_below t new n =
      reached_below (λ x y. precedes misordered (get_or t x empty) (get_or t y empty)) (λ y. precedes misordered new (get_or t y empty)) n

  -- the blockers: those in slots before A
  unfoldable pub blockers : List S → S → List ℕ
  blockers t new = dependants_below t new (after_preceding empty misordered t new - 1)

  -- the one in the highest slot
  unfoldable pub highest_blocker : List S → S → ℕ
  highest_blocker t new = let slots = blockers t new in get_or slots (length slots - 1) 0

  -- where its copy may go: A + 1 to its own nearest dependant going down, A alone going up
  abbrev pub clearing_down : List S → S → Range
  clearing_down t new = record { from = after_preceding empty misordered t new; to = window_end empty misordered t (highest_blocker t new) }

  abbrev pub clearing_up : List S → S → Range
  clearing_up t new = record { from = after_preceding empty misordered t new - 1; to = after_preceding empty misordered t new }

module _ {S : Type 0} (empty : S) (occupied : S → Bool) (misordered : S → S → Bool) where
  unfoldable pub clearing_choice : List S → S → Choice
  clearing_choice t new = choose empty occupied misordered t (clearing_down empty misordered t new) (clearing_up empty misordered t new)

  unfoldable pub clearing : List S → S → List Write
  clearing t new = clearing_writes (clearing_choice t new) (highest_blocker empty misordered t new)
