-- Document 01, "How a plan is found": to which slots the new rule and the rules that it displaces go, in the paper's words, by the table's words.
-- Both directions by one definition; `toward` and `bounds` are those of Nearest.
use Rattle.std.specs.Prelude.{◌≡◌, Bool, true, false, List, [], ◌∷◌, ℕ, suc, ◌≤◌, ◌<◌}
use Rattle.ternary.specs.Pattern.{Words}
use Rattle.layout.specs.Order.{Higher, Lower}
use Rattle.layout.specs.Plan.{Choice}
use Rattle.records.specs.Record.{slot_words, empty}
use Rattle.records.specs.Order.{slots}
use Rattle.neighbours.specs.Neighbours.{after_a, slot_b}
use Rattle.insert_plans.specs.Nearest.{depends_at, precedes_at, InReach}

-- s is the slot of least cost among some slots; of several such it comes first: "in a down plan every tie goes to the lowest slot, in an up plan
-- to the highest"
pub record FirstLeast (toward : ℕ → ℕ → Type 0) (among : ℕ → Type 0) (cost : ℕ → ℕ) (s : ℕ) : Type 0 where
  pub member : among s
  pub least : (j : ℕ) → among j → cost s ≤ cost j
  pub tie : (j : ℕ) → among j → toward j s → cost s < cost j

-- "among A + 1 to B", "within 0 to N − 1"
abbrev pub AmongDown : ℕ → Bool → List ℕ → Words → ℕ → Type 0
AmongDown w u t new j = (after_a w u t new ≤ j) × (j ≤ slot_b w u t new) × (j < slots w t)

-- "among A to B − 1", within the same
abbrev pub AmongUp : ℕ → Bool → List ℕ → Words → ℕ → Type 0
AmongUp w u t new j = (after_a w u t new ≤ suc j) × (j < slot_b w u t new) × (j < slots w t)

-- "each displaced rule follows the same choice": the rule of slot s goes to the slot of least cost of those that its own cost looks at, by the same
-- rule for ties, and so on up to a slot that is empty
pub data Displaced (w : ℕ) (t : List ℕ) (toward : ℕ → ℕ → Type 0) (bounds : ℕ → ℕ → Bool) (cost : ℕ → ℕ) : ℕ → List ℕ → Type 0 where
  vacant : {s : ℕ} → s < slots w t → empty w (slot_words w t s) ≡ true → Displaced w t toward bounds cost s []
  moved : {s j : ℕ} {rest : List ℕ} → s < slots w t → empty w (slot_words w t s) ≡ false
      → FirstLeast toward (InReach toward bounds (slots w t) s) cost j
      → Displaced w t toward bounds cost j rest → Displaced w t toward bounds cost s (j ∷ rest)

-- a choice along a direction, among some slots
pub record ChosenAlong (w : ℕ) (t : List ℕ) (toward : ℕ → ℕ → Type 0) (bounds : ℕ → ℕ → Bool) (cost : ℕ → ℕ) (among : ℕ → Type 0) (choice : Choice)
    : Type 0 where
  pub goes : FirstLeast toward among cost choice.slot
  pub costs : choice.cost ≡ cost choice.slot
  pub follow : Displaced w t toward bounds cost choice.slot choice.chain

-- "The smaller of these two wins, down if equal": a down choice costs no more than any slot would going up, an up choice less than any would going down
pub record PlanFound (w : ℕ) (u : Bool) (t : List ℕ) (new : Words) (down_cost up_cost : ℕ → ℕ) (choice : Choice) : Type 0 where
  -- its count, the cost plus 1, is never above N
  pub finite : choice.cost < slots w t
  pub down : choice.down ≡ true
      → ChosenAlong w t Higher (depends_at w u t) down_cost (AmongDown w u t new) choice × ((j : ℕ) → AmongUp w u t new j → choice.cost ≤ up_cost j)
  pub up : choice.down ≡ false
      → ChosenAlong w t Lower (precedes_at w u t) up_cost (AmongUp w u t new) choice × ((j : ℕ) → AmongDown w u t new j → choice.cost < down_cost j)
